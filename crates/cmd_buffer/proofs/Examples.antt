-- What the definitions give at texts that tell.
use Rattle.std.proofs.Common.{◌≡◌, [], ◌∷◌, length, map, replicate, false, Some, None, Ok, Err, codes, refl}
use Rattle.base_fields.specs.Fields.{u32_in}
use Rattle.mem_model.specs.Blocks.{ZoneBlock}
use Rattle.mem_model.specs.Memory.{Memory, new_memory}
use Rattle.mem_model.specs.Hunk.{over}
use Rattle.mem_model.specs.Zone.{chosen, with_taken, with_free, joined_at, position_of, zone_bytes, with_zone_bytes}
use Rattle.mem_model.specs.Operations.{z_alloc, z_free}
use Rattle.zone_values.specs.Values.{value_at, put_value, replace_value}
use Rattle.cmd_buffer.specs.Aliases.{AliasSet, AliasRefusal.LongName, AliasRefusal.Full, aliases_of, alias_texts, alias_value, set_alias}
use Rattle.cmd_buffer.specs.Buffer.{cut, short_command, first_command}
use Rattle.cmd_buffer.specs.Words.{words_of}

-- words
quoted_and_slashes : words_of (codes "\"a b\" c//d") ≡ codes "a b" ∷ codes "c//d" ∷ []
unfolding words_of
quoted_and_slashes = refl

single_inside : words_of (codes "x:y") ≡ codes "x" ∷ codes ":" ∷ codes "y" ∷ []
unfolding words_of
single_inside = refl

comment : words_of (codes "a // b") ≡ codes "a" ∷ []
unfolding words_of
comment = refl

comment_behind_a_quote : words_of (codes "\"a\"// b") ≡ codes "a" ∷ []
unfolding words_of
comment_behind_a_quote = refl

comment_behind_a_single : words_of (codes ":// b") ≡ codes ":" ∷ []
unfolding words_of
comment_behind_a_single = refl

empty_quoted : words_of (codes "\"\" \"") ≡ [] ∷ [] ∷ []
unfolding words_of
empty_quoted = refl

quote_inside : words_of (codes "a\"b c") ≡ codes "a\"b" ∷ codes "c" ∷ []
unfolding words_of
quote_inside = refl

high_bytes : words_of (128 ∷ 255 ∷ 32 ∷ 0 ∷ 33 ∷ []) ≡ (128 ∷ 255 ∷ []) ∷ (33 ∷ []) ∷ []
unfolding words_of
high_bytes = refl

eighty : length (words_of (replicate 81 58)) ≡ 80
unfolding words_of
eighty = refl

-- cuts
at_a_newline : cut (codes "a\nb") ≡ record { command = codes "a"; rest = codes "b" }
unfolding cut
at_a_newline = refl

at_a_semicolon : cut (codes "\"a;b\";c") ≡ record { command = codes "\"a;b\""; rest = codes "c" }
unfolding cut
at_a_semicolon = refl

newline_in_quotes : cut (codes "\"a;\nb") ≡ record { command = codes "\"a;"; rest = codes "b" }
unfolding cut
newline_in_quotes = refl

in_a_comment : cut (codes "a // \"; b") ≡ record { command = codes "a // \"; b"; rest = [] }
unfolding cut
in_a_comment = refl

empty_command : first_command (codes ";") ≡ Some (Some [])
unfolding cut
empty_command = refl

no_command : first_command [] ≡ None
no_command = refl

longest : short_command (replicate 1023 97) ≡ Some (replicate 1023 97)
longest = refl

too_long : short_command (replicate 1024 97) ≡ None
too_long = refl

-- aliases, in a zone of 49152 bytes
abbrev fresh : Memory
fresh = new_memory 65536 49152 8 0

abbrev hi : AliasSet
hi = set_alias fresh None (codes "hi") (codes "echo x \n")

abbrev bye : AliasSet
bye = set_alias hi.after hi.newest (codes "bye") (codes "quit \n")

-- A record of 40 bytes takes a block of 72, and a value of 8 bytes and its zero one of 40.
hi_is_set : (hi.answer ≡ Ok tt) × (aliases_of hi.after hi.newest ≡ record { record_place = 72; name = codes "hi"; value_place = 144 } ∷ [])
unfolding set_alias aliases_of put_value z_alloc chosen with_taken zone_bytes with_zone_bytes over u32_in
hi_is_set = (refl, refl)

newest_first : alias_texts bye.after bye.newest ≡ record { name = codes "bye"; value = codes "quit \n" } ∷ record { name = codes "hi"; value = codes "echo x \n" } ∷ []
unfolding set_alias aliases_of put_value value_at z_alloc chosen with_taken zone_bytes with_zone_bytes over u32_in
newest_first = refl

-- An old name keeps its place, and an alias answers in any case.
old_name : alias_texts (set_alias bye.after bye.newest (codes "hi") []).after bye.newest ≡ record { name = codes "bye"; value = codes "quit \n" } ∷ record { name = codes "hi"; value = [] } ∷ []
unfolding set_alias aliases_of put_value replace_value value_at z_alloc z_free chosen with_taken with_free joined_at position_of zone_bytes with_zone_bytes over u32_in
old_name = refl

any_case : (alias_value bye.after bye.newest (codes "HI") ≡ Some (codes "echo x \n")) × (alias_value bye.after bye.newest (codes "h") ≡ None)
unfolding set_alias aliases_of put_value value_at z_alloc chosen with_taken zone_bytes with_zone_bytes over u32_in
any_case = (refl, refl)

-- The longest name has 31 bytes.
long_name : (set_alias fresh None (replicate 32 97) []).answer ≡ Err LongName
unfolding set_alias
long_name = refl

-- 96 bytes of blocks hold a record alone, which is freed again.
value_refused : (set_alias (new_memory 65536 128 8 0) None (codes "a") (codes "x")).answer ≡ Err (Full 32)
unfolding set_alias aliases_of put_value z_alloc z_free chosen with_taken with_free joined_at position_of zone_bytes with_zone_bytes over
value_refused = refl

record_freed : map (λ (b : ZoneBlock). b.used) (set_alias (new_memory 65536 128 8 0) None (codes "a") (codes "x")).after.zone.blocks ≡ false ∷ []
unfolding set_alias aliases_of put_value z_alloc z_free chosen with_taken with_free joined_at position_of zone_bytes with_zone_bytes over
record_freed = refl
