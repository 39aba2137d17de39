-- What some words ask for, and which is the first bad one of others.
use Rattle.std.proofs.Common.{◌≡◌, ℕ, ◌≤◌, List, [], ◌∷◌, All, count_by, Some, None, IsTrue, codes, refl, sym, ap, arith, lit≤, lit<}
use Rattle.std.specs.Prelude.{is_some}
use Rattle.std.proofs.lemmas.List.Elements.{All-nil, All-cons}
use Rattle.base_fields.specs.Numbers.{is_number_word}
use Rattle.command_line.specs.declared.reading.Quantity.{Quantity}
use Rattle.command_line.specs.declared.reading.Quantity.TheVariants.{Heap, Zone, Speed}
use Rattle.command_line.specs.declared.reading.Reading.{Reading}
use Rattle.command_line.specs.CommandLine.{Setting, IsSetting, sets, is_folder_word, IsAsked, IsFirstBad}
use Rattle.command_line.specs.Reading.{Reads}
use Rattle.command_line.proofs.Readings.{no_number, unset_from_given}
use Rattle.command_line.proofs.Takes.{reads_none, takes_name}
use Rattle.command_line.proofs.Finishes.{bad_word, missing_word}

-- two folders alone
two_folders : IsAsked (codes "d" ∷ codes "e" ∷ []) 8 (record { heap = 16384; zone = 48; speed = 11025; first = 0; folders = 2 })
two_folders = record {
  settings = [];
  folders = codes "d" ∷ codes "e" ∷ [];
  line = record {
    joined = refl;
    lawful = All-nil IsSetting;
    once = λ quantity. lit≤ tt;
    named = All-cons (λ w. IsTrue (is_folder_word w)) (codes "d") (codes "e" ∷ []) refl (All-cons (λ w. IsTrue (is_folder_word w)) (codes "e") [] refl (All-nil (λ w. IsTrue (is_folder_word w))));
    some = lit≤ tt;
    few = lit≤ tt;
  };
  asks = refl;
}

-- both options, the zone's first
zone_and_heap : List Setting
zone_and_heap = record { quantity = Zone; word = codes "04"; number = 4 } ∷ record { quantity = Heap; word = codes "1024"; number = 1024 } ∷ []

are_settings : All IsSetting zone_and_heap
unfolding zone_and_heap is_number_word
are_settings =
    All-cons IsSetting (record { quantity = Zone; word = codes "04"; number = 4 }) (record { quantity = Heap; word = codes "1024"; number = 1024 } ∷ [])
    (record { written = refl; least = lit≤ tt; greatest = lit≤ tt })
    (All-cons IsSetting (record { quantity = Heap; word = codes "1024"; number = 1024 }) [] (record { written = refl; least = lit≤ tt; greatest = lit≤ tt }) (All-nil IsSetting))

each_once : (quantity : Quantity) → count_by (sets quantity) zone_and_heap ≤ 1
unfolding zone_and_heap
each_once Heap = lit≤ tt
each_once Zone = lit≤ tt
each_once Speed = lit≤ tt

both_options : IsAsked (codes "-zone" ∷ codes "04" ∷ codes "-heapsize" ∷ codes "1024" ∷ codes "d" ∷ []) 1 (record { heap = 1024; zone = 4; speed = 11025; first = 4; folders = 1 })
unfolding zone_and_heap
both_options = record {
  settings = zone_and_heap;
  folders = codes "d" ∷ [];
  line = record {
    joined = refl;
    lawful = are_settings;
    once = each_once;
    named = All-cons (λ w. IsTrue (is_folder_word w)) (codes "d") [] refl (All-nil (λ w. IsTrue (is_folder_word w)));
    some = lit≤ tt;
    few = lit≤ tt;
  };
  asks = refl;
}

-- no words: the folder is missing
no_words : IsFirstBad [] 1 0
no_words = missing_word [] 1 (record { heap = None; zone = None; speed = None; named = None; folders = 0 }) (lit≤ tt) (reads_none 1) refl

-- a heap of 12 KB is too small, whatever follows
twelve_is_no_heap : (n : ℕ) → IsSetting (record { quantity = Heap; word = codes "12"; number = n }) → ⊥
unfolding is_number_word
twelve_is_no_heap n s = let same : 12 ≡ n = cc (s.written) in omega (arith, s.least)

small_heap : IsFirstBad (codes "-heapsize" ∷ codes "12" ∷ codes "d" ∷ []) 1 1
small_heap =
    let reading : Reading = record { heap = None; zone = None; speed = None; named = Some Heap; folders = 0 } in
    let read : Reads (codes "-heapsize" ∷ []) 1 reading = takes_name [] 1 (record { heap = None; zone = None; speed = None; named = None; folders = 0 }) (codes "-heapsize") Heap (reads_none 1) refl refl refl (unset_from_given Heap (reads_none 1).settings (ap is_some (sym ((reads_none 1).numbers Heap)))) in
    bad_word (codes "-heapsize" ∷ codes "12" ∷ codes "d" ∷ []) 1 reading 1 (codes "12") (lit≤ tt) (lit< tt) read refl
    (no_number (codes "-heapsize" ∷ []) 1 reading (codes "12") Heap read refl twelve_is_no_heap)
