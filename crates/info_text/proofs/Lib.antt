mod DigitLaws
mod ImageLaws
mod Examples
mod LineLaws
mod RangeLaws
mod WadLaws
mod BrushLaws
