use Rattle.std.proofs.Common.{◌+◌, get_or, drop, ap, ◌∙◌, arith}
use Rattle.std.proofs.lemmas.List.{length-set}
use Rattle.numbers.specs.Records.{row_of}
use Rattle.cabinet.specs.Slots.{slot_bytes}
use Rattle.cabinet.proofs.Cuts.{part_length}
use Rattle.cabinet.proofs.Strips.{form_size}
use Rattle.cabinet.proofs.Puts.{rest_told, rest_counted, put_told, put_counted, put_bytes_are, put_cells_are}
use Rattle.cabinet.proofs.strip.StripCabinet.put.Goals as goal

pub invariant_of-self : goal.invariant_of-self
invariant_of-self c =
    let s = c.args.self.now in
    record {
      seven = s.seven;
      counted = λ _. rest_counted s.sound s.bytes.now c.args.cell c.in-Some.at s.tells c.in-Some.ensures.place c.in-Some.ensures.part c.in-Some.ensures.room _ _ (row_of c.args.new) c.args.new.kept (omega arith) (c.write_views.ensures ∙ ap (λ w. drop 1 (slot_bytes w)) c.row.ensures.value) s.counts (s.counted (form_size _ (s.tells.0 c.in-Some.ensures.part.0)));
      uncounted = λ no. absurd (no (form_size _ ((rest_told s.sound s.bytes.now c.args.cell c.in-Some.at s.tells c.in-Some.ensures.place c.in-Some.ensures.part c.in-Some.ensures.room _ _ (row_of c.args.new) c.args.new.kept (omega arith) (c.write_views.ensures ∙ ap (λ w. drop 1 (slot_bytes w)) c.row.ensures.value)).0 c.in-Some.ensures.part.0)));
      tells = rest_told s.sound s.bytes.now c.args.cell c.in-Some.at s.tells c.in-Some.ensures.place c.in-Some.ensures.part c.in-Some.ensures.room _ _ (row_of c.args.new) c.args.new.kept (omega arith) (c.write_views.ensures ∙ ap (λ w. drop 1 (slot_bytes w)) c.row.ensures.value);
    }

pub overflow_add-self : goal.overflow_add-self
overflow_add-self c =
    let s = c.args.self.now in
    let mine = c.in-Some.ensures.part in
    let form = s.tells.0 mine.0 in
    omega (arith, form.most, mine.2, s.counted (form_size _ form) c.args.cell mine.1, part_length s.bytes.now c.args.cell mine.1)

pub invariant_of-self-2 : goal.invariant_of-self-2
invariant_of-self-2 c =
    let s = c.args.self.now in
    record {
      seven = length-set s.counts c.args.cell (get_or s.counts c.args.cell 0 + 1) ∙ s.seven;
      counted = λ _. put_counted s.sound s.bytes.now c.args.cell c.in-Some.at s.tells c.in-Some.ensures.place c.in-Some.ensures.part c.in-Some.ensures.room _ _ (row_of c.args.new) c.args.new.kept (omega arith) (c.write_views.ensures ∙ ap (λ w. drop 1 (slot_bytes w)) c.row.ensures.value) s.counts (s.counted (form_size _ (s.tells.0 c.in-Some.ensures.part.0))) s.seven;
      uncounted = λ no. absurd (no (form_size _ ((put_told s.sound s.bytes.now c.args.cell c.in-Some.at s.tells c.in-Some.ensures.place c.in-Some.ensures.part c.in-Some.ensures.room _ _ (row_of c.args.new) c.args.new.kept (omega arith) (c.write_views.ensures ∙ ap (λ w. drop 1 (slot_bytes w)) c.row.ensures.value)).0 c.in-Some.ensures.part.0)));
      tells = put_told s.sound s.bytes.now c.args.cell c.in-Some.at s.tells c.in-Some.ensures.place c.in-Some.ensures.part c.in-Some.ensures.room _ _ (row_of c.args.new) c.args.new.kept (omega arith) (c.write_views.ensures ∙ ap (λ w. drop 1 (slot_bytes w)) c.row.ensures.value);
    }

pub returns-clause-after : goal.returns-clause-after
returns-clause-after c =
    let s = c.args.self.now in
    put_cells_are s.sound s.bytes.now c.args.cell c.in-Some.at s.tells c.in-Some.ensures.place c.in-Some.ensures.part c.in-Some.ensures.room _ _ (row_of c.args.new) c.args.new.kept (omega arith) (c.write_views.ensures ∙ ap (λ w. drop 1 (slot_bytes w)) c.row.ensures.value)

pub returns-clause-bytes : goal.returns-clause-bytes
returns-clause-bytes c =
    let s = c.args.self.now in
    put_bytes_are s.sound s.bytes.now c.args.cell c.in-Some.at s.tells c.in-Some.ensures.place c.in-Some.ensures.part c.in-Some.ensures.room _ _ (row_of c.args.new) c.args.new.kept (omega arith) (c.write_views.ensures ∙ ap (λ w. drop 1 (slot_bytes w)) c.row.ensures.value)
