use Rattle.std.proofs.Common.{◌≡◌, ◌∙◌, ℕ, refl, ap}
use Rattle.base_fields.specs.Fields.{u32_bytes, with_field}
use Rattle.cmd_buffer.specs.Aliases.{number_of}
use Rattle.cmd_buffer.proofs.AliasWriting.{record_written, number_is}
use Rattle.cmd_buffer.proofs.aliases.write_record.Goals as goal

pub returns : goal.returns
returns c =
    let next = u32_bytes (number_of c.args.next) in
    let one : c.put_u32.new.bytes ≡ with_field c.args.bytes.now 0 next =
    c.put_u32.ensures ∙ ap (λ (n : ℕ). with_field c.args.bytes.now 0 (u32_bytes n)) (c.unwrap_or.ensures ∙ number_is c.args.next) in
    record_written c.args.bytes.now c.put_u32.new.bytes c.copy_from_slice.new.self c.fill.new.self c.put_u32-2.new.bytes c.args.name.now next (u32_bytes c.args.value.0)
    c.requires.room c.requires.fits refl refl one c.copy_from_slice.ensures.after (c.fill.ensures.after (λ y e. e)) c.put_u32-2.ensures
