use Rattle.std.proofs.Common.{rules, ◌≡◌, ◌<◌, ◌∙◌, ℕ, false, length, subst, sym}
use Rattle.std.proofs.lemmas.Bool.{false≢true}
use Rattle.std.proofs.lemmas.List.{length-map}
use Rattle.vc_label.specs.Sets.{IsPartOf}
use Rattle.vc_text.specs.Escapes.{unescaped}
use Rattle.vc_exprio.specs.WordParts.{tapes_of}
use Rattle.vc_exprio.proofs.GrownWords.{TapeStep, tape_step}
use Rattle.vc_exprio.proofs.OverTapes.{with_tape, first_tape, other_tapes}
use Rattle.vc_exprio.proofs.over.are_over.Goals as goal

pub returns-then-not-is_part_of : goal.returns-then-not-is_part_of
returns-then-not-is_part_of g c =
    let sets = g.L.LabelSet.sets c.args.labels.now in
    let w = tapes_of c.args.parts.now in
    let i : ℕ = c.loop-tape.tape in
    let within : i < length sets = search rules in
    let parts : length c.args.parts.now ≡ length sets = search rules in
    let many : length w ≡ length sets = length-map c.args.parts.now (λ p. unescaped p.now) ∙ parts in
    let step : TapeStep sets w i c.tape.result = tape_step sets w i c.tape.result within many c.tape.ensures in
    let out : c.is_part_of.result ≡ false = search rules in (
      λ h. absurd (false≢true h),
      λ over. absurd (false≢true (sym out ∙ c.is_part_of.ensures.1 (subst (IsPartOf c.tape.result) (sym c.part_on.ensures) (first_tape sets w i c.tape.result step (c.loop-tape.invariant.none over))))),
    )

pub loop-tape-preserved : goal.loop-tape-preserved
loop-tape-preserved g c =
    let sets = g.L.LabelSet.sets c.args.labels.now in
    let w = tapes_of c.args.parts.now in
    let i : ℕ = c.loop-tape.tape in
    let within : i < length sets = search rules in
    let parts : length c.args.parts.now ≡ length sets = search rules in
    let many : length w ≡ length sets = length-map c.args.parts.now (λ p. unescaped p.now) ∙ parts in
    let step : TapeStep sets w i c.tape.result = tape_step sets w i c.tape.result within many c.tape.ensures in
    let is : IsPartOf c.tape.result (unescaped c.part_on.result.now) = search rules in
    record {
      over = λ h. c.loop-tape.invariant.over (with_tape sets w i c.tape.result step (subst (IsPartOf c.tape.result) c.part_on.ensures is) h);
      none = λ h. other_tapes sets w i c.tape.result step (c.loop-tape.invariant.none h);
    }
