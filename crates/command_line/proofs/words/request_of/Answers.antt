use Rattle.std.proofs.Common.{◌≡◌, map, length, take, string_bytes, sym, subst, arith}
use Rattle.std.proofs.lemmas.List.{take_all, length-map}
use Rattle.command_line.specs.CommandLine.{IsFirstBad}
use Rattle.command_line.specs.Reading.{Reads}
use Rattle.command_line.proofs.Lines.{pinned_ok, pinned_err}
use Rattle.command_line.proofs.Takes.{reads_none}
use Rattle.command_line.proofs.Finishes.{finished_as, bad_word, missing_word}
use Rattle.command_line.proofs.Bounds.{next_word, ranges_from_asked, first_from_asked, counted_from_asked}
use Rattle.command_line.proofs.words.request_of.Goals as goal

pub loop-number-init : goal.loop-number-init
loop-number-init c = rw c.new-reading.ensures (reads_none c.args.most)

pub loop-number-preserved : goal.loop-number-preserved
loop-number-preserved c =
    let next = next_word string_bytes c.args.words.now c.loop-number.number c.index-words-number.result c.as_bytes.result.now c.loop-number-test.true c.index-words-number.is c.as_bytes.ensures.value in
    subst (λ w. Reads w c.args.most c.in-Some.next) (sym next) (c.in-Some.ensures (take c.loop-number.number (map string_bytes c.args.words.now)) c.loop-number.invariant)

pub returns-in-None : goal.returns-in-None
returns-in-None c =
    let words = map string_bytes c.args.words.now in
    let number = c.loop-number.number in
    let next = next_word string_bytes c.args.words.now number c.index-words-number.result c.as_bytes.result.now c.loop-number-test.true c.index-words-number.is c.as_bytes.ensures.value in
    let bad = bad_word words c.args.most c.loop-number.reading number c.as_bytes.result.now c.requires.some (omega (arith, c.loop-number-test.true, length-map c.args.words.now string_bytes)) c.loop-number.invariant next (c.in-None.ensures (take number words) c.loop-number.invariant) in
    let pinned = pinned_err words c.args.most (record { word = number }) bad in
    record { asked = pinned.asks; refused = pinned.refuses; folders = tt; some = tt; options = tt; heap = tt; zone = tt; speed = tt }

pub returns-then-reading-eq0 : goal.returns-then-reading-eq0
returns-then-reading-eq0 c =
    let words = map string_bytes c.args.words.now in
    let number = c.loop-number.number in
    let all : take number words ≡ words = take_all number words (omega (arith, c.loop-number-test.false, length-map c.args.words.now string_bytes)) in
    let read = subst (λ w. Reads w c.args.most c.loop-number.reading) all c.loop-number.invariant in
    let missing = missing_word words c.args.most c.loop-number.reading c.requires.some read (omega arith) in
    let bad = subst (λ n. IsFirstBad words c.args.most n) (length-map c.args.words.now string_bytes) missing in
    let pinned = pinned_err words c.args.most (record { word = length c.args.words.now }) bad in
    record { asked = pinned.asks; refused = pinned.refuses; folders = tt; some = tt; options = tt; heap = tt; zone = tt; speed = tt }

pub returns : goal.returns
returns c =
    let words = map string_bytes c.args.words.now in
    let reading = c.loop-number.reading in
    let number = c.loop-number.number in
    let all : take number words ≡ words = take_all number words (omega (arith, c.loop-number-test.false, length-map c.args.words.now string_bytes)) in
    let read = subst (λ w. Reads w c.args.most reading) all c.loop-number.invariant in
    let asks = finished_as words c.args.most reading c.unwrap_or.result c.unwrap_or-2.result c.unwrap_or-3.result (length c.args.words.now) c.unwrap_or.ensures c.unwrap_or-2.ensures c.unwrap_or-3.ensures (sym (length-map c.args.words.now string_bytes)) read (omega arith) in
    let pinned = pinned_ok words c.args.most _ asks in
    let counts = counted_from_asked words c.args.most _ (length c.args.words.now) (length-map c.args.words.now string_bytes) asks in
    let ranges = ranges_from_asked words c.args.most _ asks in
    record {
      asked = pinned.asks;
      refused = pinned.refuses;
      folders = counts.all;
      some = (counts.some, counts.few);
      options = first_from_asked words c.args.most _ asks;
      heap = (ranges.heap.least, ranges.heap.most);
      zone = (ranges.zone.least, ranges.zone.most);
      speed = (ranges.speed.least, ranges.speed.most);
    }
