-- The bytes of the newest high block, which an active temporary block has.
use Rattle.std.proofs.Common.{◌≡◌, ℕ, ◌+◌, ◌-◌, List, [], ◌∷◌, ◌++◌, Option, Some, None, ◌≤◌, length, refl, ap, sym, ◌∙◌, arith}
use Rattle.std.specs.Prelude.{◌^◌, IsSome, slice_get, slice_set}
use Rattle.std.specs.Option.{option_map}
use Rattle.std.specs.List.{AllByRecursion}
use Rattle.mem_model.specs.Blocks.{HunkBlock}
use Rattle.mem_model.specs.Memory.{Memory, size_of}
use Rattle.mem_model.specs.Plain.{IsLast}
use Rattle.mem_model.specs.Hunk.{over, with_bytes, last_bytes, with_last_bytes, temp_bytes, temp_bytes_of, with_temp_bytes, with_temp_bytes_of}
use Rattle.mem_model.specs.Laid.{Laid, IsHunkBlock, IsTemp}
use Rattle.mem_model.proofs.Laying.{length-over}

last_reads : (b : HunkBlock) (bs : List HunkBlock) (a : HunkBlock) → slice_get (b ∷ bs) (length bs) ≡ Some a → last_bytes (b ∷ bs) ≡ Some a.bytes
last_reads b [] a h = ap (option_map (λ x. x.bytes)) h
last_reads b (c ∷ cs) a h = last_reads c cs a h

last_writes : (b : HunkBlock) (bs : List HunkBlock) (a : HunkBlock) (bytes : List ℕ) → slice_get (b ∷ bs) (length bs) ≡ Some a → with_last_bytes (b ∷ bs) bytes ≡ slice_set (b ∷ bs) (length bs) (with_bytes a bytes)
last_writes b [] a bytes h = let same : b ≡ a = cc in ap (λ x. with_bytes x bytes ∷ []) same
last_writes b (c ∷ cs) a bytes h = ap (λ xs. b ∷ xs) (last_writes c cs a bytes h)

-- the newest of some blocks
pub is_last : (blocks : List HunkBlock) → IsSome (last_bytes blocks) → IsLast blocks (length blocks - 1)
is_last [] h = absurd (cc)
is_last (b ∷ bs) h =
    let before : length (b ∷ bs) - 1 ≡ length bs = omega arith in
    rw before (record { inside = omega arith; reads = λ a at. last_reads b bs a at; writes = λ a bytes at. last_writes b bs a bytes at })

pub size_of-with_last : (blocks : List HunkBlock) (bytes : List ℕ) → size_of (with_last_bytes blocks bytes) ≡ size_of blocks
size_of-with_last [] bytes = refl
size_of-with_last (b ∷ []) bytes = refl
size_of-with_last (b ∷ c ∷ bs) bytes = ap (λ n. b.size + n) (size_of-with_last (c ∷ bs) bytes)

all-with_last : (blocks : List HunkBlock) (bytes : List ℕ) → AllByRecursion IsHunkBlock blocks → AllByRecursion IsHunkBlock (with_last_bytes blocks bytes)
all-with_last [] bytes p = tt
all-with_last (b ∷ []) bytes p = (record { header = p.0.header; whole = p.0.whole; short = p.0.short; text = p.0.text; bytes = length-over b.bytes bytes ∙ p.0.bytes }, tt)
all-with_last (b ∷ c ∷ bs) bytes p = (p.0, all-with_last (c ∷ bs) bytes p.1)

with_last-append : (older : List HunkBlock) (b : HunkBlock) (bytes : List ℕ) → with_last_bytes (older ++ b ∷ []) bytes ≡ older ++ with_bytes b bytes ∷ []
with_last-append [] b bytes = refl
with_last-append (a ∷ []) b bytes = refl
with_last-append (a ∷ c ∷ cs) b bytes = ap (λ bs. a ∷ bs) (with_last-append (c ∷ cs) b bytes)

temp-with_last : (high : List HunkBlock) (temp : Option ℕ) (bytes : List ℕ) → IsTemp high temp → IsTemp (with_last_bytes high bytes) temp
temp-with_last high None bytes p = tt
temp-with_last high (Some mark) bytes p = (p.0, with_bytes p.1 bytes, ap (λ bs. with_last_bytes bs bytes) p.2 ∙ with_last-append p.0 p.1 bytes, p.3)

pub Laid-with_last : (m : Memory) (bytes : List ℕ) → Laid m → Laid (record m { high = with_last_bytes m.high bytes })
Laid-with_last m bytes laid = record {
  small = laid.small;
  inside = rw (size_of-with_last m.high bytes) laid.inside;
  low = laid.low;
  high = all-with_last m.high bytes laid.high;
  temp = temp-with_last m.high m.temp bytes laid.temp;
  zone = laid.zone;
  cache = rw (size_of-with_last m.high bytes) laid.cache;
  events = laid.events;
}

pub last_bytes-append : (older : List HunkBlock) (b : HunkBlock) → last_bytes (older ++ b ∷ []) ≡ Some b.bytes
last_bytes-append [] b = refl
last_bytes-append (a ∷ []) b = refl
last_bytes-append (a ∷ c ∷ cs) b = last_bytes-append (c ∷ cs) b

some_left : (b : HunkBlock) (bs : List HunkBlock) (c : HunkBlock) (bytes : List ℕ) → last_bytes (b ∷ with_last_bytes (c ∷ bs) bytes) ≡ last_bytes (with_last_bytes (c ∷ bs) bytes)
some_left b [] c bytes = refl
some_left b (d ∷ ds) c bytes = refl

pub last_bytes-written : (blocks : List HunkBlock) (old bytes : List ℕ) → last_bytes blocks ≡ Some old → last_bytes (with_last_bytes blocks bytes) ≡ Some (over old bytes)
last_bytes-written [] old bytes h = absurd (cc)
last_bytes-written (b ∷ []) old bytes h = let same : b.bytes ≡ old = cc in ap (λ w. Some (over w bytes)) same
last_bytes-written (b ∷ c ∷ bs) old bytes h = some_left b bs c bytes ∙ last_bytes-written (c ∷ bs) old bytes h

some-append : (older : List HunkBlock) (b : HunkBlock) → IsSome (last_bytes (older ++ b ∷ []))
some-append [] b = refl
some-append (a ∷ []) b = refl
some-append (a ∷ c ∷ cs) b = some-append (c ∷ cs) b

-- an active temporary block has bytes
pub some-marked : (high : List HunkBlock) (mark : ℕ) → IsTemp high (Some mark) → IsSome (last_bytes high)
some-marked high mark p = rw p.2 (some-append p.0 p.1)

pub temp_bytes-some : (m : Memory) (mark : ℕ) → m.temp ≡ Some mark → temp_bytes m ≡ last_bytes m.high
unfolding temp_bytes
temp_bytes-some m mark h = ap (temp_bytes_of m.high) h

pub temp_bytes-none : (m : Memory) → m.temp ≡ None → temp_bytes m ≡ None
unfolding temp_bytes
temp_bytes-none m h = ap (temp_bytes_of m.high) h

pub with_temp_bytes-some : (m : Memory) (mark : ℕ) (bytes : List ℕ) → m.temp ≡ Some mark → with_temp_bytes m bytes ≡ record m { high = with_last_bytes m.high bytes }
unfolding with_temp_bytes
with_temp_bytes-some m mark bytes h = ap (with_temp_bytes_of m bytes) h

marked_by : (high : List HunkBlock) (temp : Option ℕ) → IsSome (temp_bytes_of high temp) → (mark : ℕ) × (temp ≡ Some mark)
marked_by high None h = absurd (cc)
marked_by high (Some mark) h = (mark, refl)

-- where there are temporary bytes there is a mark
pub mark_of : (m : Memory) → IsSome (temp_bytes m) → (mark : ℕ) × (m.temp ≡ Some mark)
unfolding temp_bytes
mark_of m h = marked_by m.high m.temp h

with_temp_of : (m : Memory) (bytes : List ℕ) (temp : Option ℕ) → Laid m → Laid (with_temp_bytes_of m bytes temp)
with_temp_of m bytes None laid = laid
with_temp_of m bytes (Some mark) laid = Laid-with_last m bytes laid

-- a write into the temporary block keeps a memory laid out
pub Laid-with_temp_bytes : (m : Memory) (bytes : List ℕ) → Laid m → Laid (with_temp_bytes m bytes)
unfolding with_temp_bytes
Laid-with_temp_bytes m bytes laid = with_temp_of m bytes m.temp laid

last_small : (blocks : List HunkBlock) (bytes : List ℕ) → AllByRecursion IsHunkBlock blocks → last_bytes blocks ≡ Some bytes → length bytes ≤ size_of blocks
last_small [] bytes p h = absurd (cc)
last_small (b ∷ []) bytes p h = let same : b.bytes ≡ bytes = cc in omega (arith, p.0.bytes, ap length same)
last_small (b ∷ c ∷ bs) bytes p h = omega (arith, last_small (c ∷ bs) bytes p.1 h)

-- The temporary bytes are no more than the largest arena has.
pub temp_bytes-small : (m : Memory) (bytes : List ℕ) → Laid m → temp_bytes m ≡ Some bytes → length bytes ≤ 2 ^ 26
temp_bytes-small m bytes laid h =
    let mark = mark_of m (rw h refl) in
    omega (arith, last_small m.high bytes laid.high (sym (temp_bytes-some m mark.0 mark.1) ∙ h), laid.inside, laid.small)
