use Rattle.std.proofs.Common.{rules, ◌≡◌, ◌<◌, ℕ, length, sym, ◌∙◌, subst}
use Rattle.std.proofs.lemmas.List.{length-map}
use Rattle.vc_exprio.specs.WordParts.{tapes_of}
use Rattle.vc_text.specs.Escapes.{unescaped}
use Rattle.vc_exprio.proofs.GrownWords.{AreIn, TapeStep, tape_step, grown_at, over_more, over_rest, over_first}
use Rattle.vc_exprio.proofs.words.word_with.Goals as goal

pub returns-then-not-branch : goal.returns-then-not-branch
returns-then-not-branch g c =
    let sets = g.L.LabelSet.sets c.args.labels.now in
    let w = tapes_of c.args.parts.now in
    let i : ℕ = c.loop-tape.tape in
    let within : i < length sets = search rules in
    let many : length w ≡ length sets = length-map c.args.parts.now (λ p. unescaped p.now) ∙ c.requires in
    let step : TapeStep sets w i c.tape.result = tape_step sets w i c.tape.result within many c.tape.ensures in
    let out = rw c.if-not-branch.true at c.in_ok-push_bytes.ensures in
    λ over. out (subst (AreIn c.tape.result.alphabet) (sym c.part_on.ensures) (over_first sets w i c.tape.result step (c.loop-tape.invariant.none over)))

pub loop-tape-preserved : goal.loop-tape-preserved
loop-tape-preserved g c =
    let sets = g.L.LabelSet.sets c.args.labels.now in
    let w = tapes_of c.args.parts.now in
    let i : ℕ = c.loop-tape.tape in
    let within : i < length sets = search rules in
    let many : length w ≡ length sets = length-map c.args.parts.now (λ p. unescaped p.now) ∙ c.requires in
    let step : TapeStep sets w i c.tape.result = tape_step sets w i c.tape.result within many c.tape.ensures in
    let pushed = rw c.if-not-branch.false at c.in_ok-push_bytes.ensures in
    record {
      word = grown_at w c.loop-tape.word c.push_bytes.new.word (length sets) i (unescaped c.part_on.result.now) c.loop-tape.invariant.word within many (sym c.part_on.ensures) pushed.0;
      over = λ h. c.loop-tape.invariant.over (over_more sets w i c.tape.result step (subst (AreIn c.tape.result.alphabet) c.part_on.ensures pushed.1) h);
      none = λ h. over_rest sets w i c.tape.result step (c.loop-tape.invariant.none h);
    }
