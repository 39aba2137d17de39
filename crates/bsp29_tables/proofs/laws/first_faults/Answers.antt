use Rattle.bsp29_tables.proofs.FirstLaws.{first_is}
use Rattle.bsp29_tables.proofs.laws.first_faults.Goals as goal

pub returns : goal.returns
returns c = record {
  lump = λ bytes fault e. first_is _ _ fault e;
  texture = λ lump fault e. first_is _ _ fault e;
  animation = λ lump fault e. first_is _ _ fault e;
  frame = λ lump fault e. first_is _ _ fault e;
  row = λ bytes lump fault e. first_is _ _ fault e;
}
