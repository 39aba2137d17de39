-- What readers tell of skins and frames.
use Rattle.std.specs.Prelude.{ℕ, zero, suc, ◌+◌, List, [], ◌∷◌, length, take, drop}
use Rattle.alias_load.specs.declared.header.Kind.{Kind}
use Rattle.alias_load.specs.declared.reading.HeadView.{HeadView}
use Rattle.alias_load.specs.declared.reading.SeriesView.{SeriesView}
use Rattle.alias_load.specs.Models.{Head, Series}

-- n pieces of this length
unfoldable pub cut : ℕ → ℕ → List ℕ → List (List ℕ)
cut length zero bytes = []
cut length (suc n) bytes = take length bytes ∷ cut length n (drop length bytes)

abbrev pub head_of : HeadView → Head
head_of view = record { word = view.word.now; count = view.count.now; intervals = view.intervals.now }

-- so many items of the kind's length
abbrev pub series_in : Kind → Head → ℕ → List ℕ → Series
series_in kind head n items = record { head = head; items = cut kind.item n items }

abbrev pub series_of : Kind → SeriesView → Series
series_of kind view = series_in kind (head_of view.head) view.head.number view.items.now

abbrev pub add_count : ℕ → Series → ℕ
add_count n x = n + length x.items
