use Rattle.std.proofs.Common.{ap, sym, ◌∙◌, ◌||◌}
use Rattle.vc_context.specs.Reading.{items_front}
use Rattle.vc_context.specs.Spelling.{Range}
use Rattle.vc_context.proofs.Gathering.{between_letters, letters_more, rest_more, letters_all}
use Rattle.vc_label.specs.Alphabets.{has_letter}
use Rattle.vc_context.proofs.letters.letters_front.Goals as goal
use Rattle.vc_text.specs.Blanks.{after_blanks}

pub loop-first-preserved : goal.loop-first-preserved
loop-first-preserved c =
    let range : Range = record { first = c.in-Some.first; last = c.in-Some.last } in
    let all = items_front (after_blanks c.args.text.now) in
    record {
      letters = letters_more c.loop-first.alphabet c.with_range-alphabet.result c.loop-first.rest.now c.in-Some.next.now range all.0 (sym c.in-Some.ensures.value) (λ x. c.with_range-alphabet.ensures x ∙ ap (λ b. has_letter c.loop-first.alphabet x || b) (between_letters c.in-Some.first c.in-Some.last x c.in-Some.ensures.letters.0 c.in-Some.ensures.letters.1)) c.loop-first.invariant.letters;
      rest = rest_more c.loop-first.rest.now c.in-Some.next.now range all.1 (sym c.in-Some.ensures.value) c.loop-first.invariant.rest;
    }

pub returns : goal.returns
returns c = letters_all c.loop-first.alphabet c.args.text.now c.loop-first.rest.now (sym c.in_default.ensures.value) c.loop-first.invariant.letters c.loop-first.invariant.rest
