use Rattle.std.proofs.Common.{ap, sym, ◌∙◌, ℕ, List, true, false, ◌&&◌, not}
use Rattle.vc_label.specs.Alphabets.{has_letter}
use Rattle.vc_text.specs.Classes.{has_in_class, has_singles, items_of, names_letter, symbols}
use Rattle.vc_text.proofs.Ranges.{has_by_items, letters_both, others_of}
use Rattle.vc_text.proofs.classes.class_letters.Goals as goal

pub returns-then-negated : goal.returns-then-negated
returns-then-negated c =
    let body : List ℕ = c.args.body.now in
    let items : List ℕ = c.negation-negated.result.1.now in
    let of = c.negation-negated.ensures in
    let found = c.in_ok-named.ensures in (
      sym (ap (λ (s : List ℕ). has_singles c.args.alphabet (items_of (symbols s))) of.items) ∙ found.0,
      letters_both c.args.alphabet c.without.result (has_in_class body)
          (λ x. let a = has_letter c.args.alphabet x in
          let n = names_letter (items_of (symbols items)) x in
          c.without.ensures x ∙ ap (λ b. a && not b) (found.1 x) ∙ others_of a n
          ∙ ap (λ b. a && b) (has_by_items body items true x (sym c.if-negated.true ∙ of.negated) of.items)),
    )

pub returns-else-negated : goal.returns-else-negated
returns-else-negated c =
    let body : List ℕ = c.args.body.now in
    let items : List ℕ = c.negation-negated.result.1.now in
    let of = c.negation-negated.ensures in
    let found = c.in_ok-named.ensures in (
      sym (ap (λ (s : List ℕ). has_singles c.args.alphabet (items_of (symbols s))) of.items) ∙ found.0,
      letters_both c.args.alphabet c.in_ok-named.named (has_in_class body)
          (λ x. found.1 x ∙ ap (λ b. has_letter c.args.alphabet x && b) (has_by_items body items false x (sym c.if-negated.false ∙ of.negated) of.items)),
    )
