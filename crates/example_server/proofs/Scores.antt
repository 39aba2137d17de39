-- A score in a block of the zone.
use Rattle.std.proofs.Common.{◌≡◌, ℕ, ◌<◌, ◌≤◌, ◌^◌, List, Some, Ok, length, sym, ap, ◌∙◌, arith}
use Rattle.base_fields.specs.Fields.{u32_bytes, u32_in, with_field}
use Rattle.base_fields.proofs.FieldLaws.{length-with_field, u32_in-put}
use Rattle.mem_model.specs.Answer.{Answers}
use Rattle.mem_model.specs.Laid.{Laid}
use Rattle.mem_model.specs.Memory.{Memory}
use Rattle.mem_model.specs.Operations.{z_alloc}
use Rattle.mem_model.specs.Zone.{with_zone_bytes, zone_bytes}
use Rattle.mem_model.proofs.Untouched.{zone_bytes-same}
use Rattle.mem_model.proofs.ZoneLaws.{length-z_new, zone_bytes-written}
use Rattle.example_server.specs.Levels.{HoldsScore}

-- It is read where it was put, in a block of four bytes or more.
pub score_put : (m now : Memory) (place score : ℕ) (old new : List ℕ) → Laid m → Answers (z_alloc m 4) (Ok place) now → zone_bytes now place ≡ Some old → score < 2 ^ 32 → new ≡ with_field old 0 (u32_bytes score) → HoldsScore (with_zone_bytes now place new) place score
score_put m now place score old new laid gives there fits put =
    let long : 4 ≤ length old = length-z_new m 4 place old laid gives.answer (ap (λ (n : Memory). zone_bytes n place) (sym gives.after) ∙ there) in
    let same : length new ≡ length old = ap length put ∙ length-with_field old 0 (u32_bytes score) long in
    let read : u32_in new 0 ≡ score = ap (λ (bytes : List ℕ). u32_in bytes 0) put ∙ u32_in-put old 0 score (omega arith) fits in
    rw (zone_bytes-written now place old new there same) read

-- It is left where the zone is.
pub score_stays : (m n : Memory) (place score : ℕ) → n.zone ≡ m.zone → HoldsScore m place score → HoldsScore n place score
score_stays m n place score same holds = rw (zone_bytes-same n m place same) holds
