-- What the calls leave of the memory beside the high hunk and the cache.
use Rattle.std.proofs.Common.{Bool, ◌≡◌, ℕ, List, [], Option, Some, None, Result, sym, ap, ◌∙◌}
use Rattle.std.proofs.lemmas.List.{append-nil}
use Rattle.mem_model.specs.Answer.{Answers, Gives}
use Rattle.mem_model.specs.Event.{CacheRefusal}
use Rattle.mem_model.specs.Keeps.{beside_cache, beside_high}
use Rattle.mem_model.specs.Memory.{Memory}
use Rattle.mem_model.specs.Operations.{build_cache, cache_alloc, check, copy_low_to_cache}
use Rattle.mem_model.proofs.CacheImages.{beside-build_cache, beside-copy_low_to_cache}
use Rattle.mem_model.proofs.CacheLaws.{beside-cache_alloc, beside-check}
use Rattle.res_table.specs.declared.answers.Fault.{Fault}
use Rattle.res_table.specs.Kept.{GrowsLow}

where_cache : (m n : Memory) → beside_cache n ≡ beside_cache m → beside_high n ≡ beside_high m
where_cache m n same = ap (λ (x : Memory). record x { high = []; temp = None }) same

pub beside_checked : (m n : Memory) (user : ℕ) (place : Option ℕ) → Answers (check m user) place n → beside_high n ≡ beside_high m
beside_checked m n user place gives = ap beside_high gives.after ∙ where_cache m (check m user).after (beside-check m user)

pub beside_asked : (m n : Memory) (user size : ℕ) (name : List ℕ) (frugal : Bool) (reply : Option (Result (Unit {0}) CacheRefusal)) → Gives (cache_alloc m user size name) frugal m reply n
    → beside_high n ≡ beside_high m
beside_asked m n user size name frugal None gives = ap beside_high gives.after
beside_asked m n user size name frugal (Some reply) gives = ap beside_high gives.after ∙ where_cache m (cache_alloc m user size name).after (beside-cache_alloc m user size name)

pub beside_built : (m mid n : Memory) (user size len : ℕ) (name : List ℕ) (image_of : List ℕ → Result (List ℕ) Fault) (reply : Result (Unit {0}) CacheRefusal)
    → Answers (cache_alloc m user size name) reply mid → Answers (build_cache mid user len image_of) tt n → beside_high n ≡ beside_high m
beside_built m mid n user size len name image_of reply gives builds =
    ap beside_high builds.after ∙ where_cache mid (build_cache mid user len image_of).after (beside-build_cache mid user len image_of)
    ∙ ap beside_high gives.after ∙ where_cache m (cache_alloc m user size name).after (beside-cache_alloc m user size name)

pub beside_copied : (m mid n : Memory) (user low size : ℕ) (name : List ℕ) (reply : Result (Unit {0}) CacheRefusal)
    → Answers (cache_alloc m user size name) reply mid → Answers (copy_low_to_cache mid low user size) tt n → beside_high n ≡ beside_high m
beside_copied m mid n user low size name reply gives copies =
    ap beside_high copies.after ∙ where_cache mid (copy_low_to_cache mid low user size).after (beside-copy_low_to_cache mid low user size)
    ∙ ap beside_high gives.after ∙ where_cache m (cache_alloc m user size name).after (beside-cache_alloc m user size name)

pub zone_beside : (m n : Memory) → beside_high n ≡ beside_high m → n.zone ≡ m.zone
zone_beside m n same = ap (λ (x : Memory). x.zone) same

pub low_beside : (m n : Memory) → beside_high n ≡ beside_high m → GrowsLow m n
low_beside m n same = ([], ap (λ (x : Memory). x.low) same ∙ sym (append-nil m.low))

pub ruleset besides = (zone_beside, low_beside)
