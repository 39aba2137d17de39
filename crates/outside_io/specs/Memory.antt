-- What the objects in memory hold.
use Rattle.std.specs.Prelude.{ℕ, List}
use Rattle.outside_io.specs.Files.{File}

-- a folder: its files, the numbers of the calls that fail, and how many calls were made and have failed
pub record FolderState : Type 0 where
  pub files : List File
  pub failing : List ℕ
  pub calls : ℕ
  pub faults : ℕ

-- a source: the bytes that are left, how many a read gives at most, and the same of its reads
pub record SourceState : Type 0 where
  pub rest : List ℕ
  pub piece : ℕ
  pub failing : List ℕ
  pub calls : ℕ
  pub faults : ℕ

-- a sink: the bytes that were put, how many it has room for, and the same of its puts
pub record SinkState : Type 0 where
  pub got : List ℕ
  pub capacity : ℕ
  pub failing : List ℕ
  pub calls : ℕ
  pub faults : ℕ
