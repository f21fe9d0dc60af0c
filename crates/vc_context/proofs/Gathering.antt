-- A loop over the items at the front of a text.
use Rattle.std.proofs.Common.{◌≡◌, ℕ, zero, suc, ◌+◌, ◌<◌, ◌≤◌, Bool, true, false, ◌&&◌, ◌||◌, List, [], ◌∷◌, length, Some, None, refl, ap, sym, ◌∙◌, length-append, arith}
use Rattle.std.proofs.lemmas.Bool.Decides.{nat_tests}
use Rattle.std.specs.Option.{option_map_or}
use Rattle.std.specs.Prelude.{nat_le, IsTrue}
use Rattle.vc_context.specs.Reading.{Front, item_front, items_by, items_front, letters_in, letters_front}
use Rattle.vc_context.specs.Spelling.{Range, is_between, is_named}
use Rattle.vc_context.proofs.Alphabets.{Items, items_and, item_and, stop_here, item_long, letters_agree}
use Rattle.vc_context.proofs.Items.{item_sound}
use Rattle.vc_context.proofs.Steps.{found}
use Rattle.vc_label.specs.Alphabets.{has_letter, letters_of}
use Rattle.vc_label.specs.Letters.{is_letter}
use Rattle.vc_label.specs.declared.alphabet.Alphabet.{Alphabet}
use Rattle.vc_text.specs.Blanks.{after_blanks}

-- what stands behind an item is shorter
pub item_shorter : (s : List ℕ) (r : Range) (rest : List ℕ) → item_front s ≡ found r rest → length rest < length s
item_shorter s r rest e =
    let item = item_sound s r rest e in
    let some = item_long item.0 r item.2 in
    let same : length s ≡ length item.0 + length rest = ap length item.1 ∙ length-append item.0 rest in
    omega arith

empty_has_none : (s : List ℕ) → length s ≤ 0 → item_front s ≡ None
empty_has_none [] short = refl
empty_has_none (x ∷ s) short = absurd (omega arith)

-- limits at the length or above it give the same
items_enough : (n m : ℕ) (s : List ℕ) → length s ≤ n → length s ≤ m → items_by n s ≡ items_by m s
items_enough zero m s below_n below_m = sym (stop_here m s (empty_has_none s below_n))
items_enough (suc n) zero s below_n below_m = stop_here (suc n) s (empty_has_none s below_m)
items_enough (suc n) (suc m) s below_n below_m = more (item_front s) refl (items_enough n m)
  where
    more : (o : Front Range) → item_front s ≡ o → ((t : List ℕ) → length t ≤ n → length t ≤ m → items_by n t ≡ items_by m t)
        → option_map_or (item_and n) o (items_and [] s) ≡ option_map_or (item_and m) o (items_and [] s)
    more None e same = refl
    more (Some (r, rest)) e same =
        let shorter = item_shorter s r rest e in
        ap (λ (p : Items). items_and (r ∷ p.0) p.1) (same rest (omega arith) (omega arith))

-- an item, and those behind it
items_more : (s : List ℕ) (r : Range) (rest : List ℕ) → item_front s ≡ found r rest
    → items_front s ≡ items_and (r ∷ (items_front rest).0) (items_front rest).1
items_more s r rest e =
    let shorter = item_shorter s r rest e in
    items_enough (length s) (suc (length s)) s (omega arith) (omega arith)
    ∙ ap (λ o. option_map_or (item_and (length s)) o (items_and [] s)) e
    ∙ ap (λ (p : Items). items_and (r ∷ p.0) p.1) (items_enough (length s) (length rest) rest (omega arith) (omega arith))

regroup : (a b c : Bool) → ((a || b) || c) ≡ (a || (b || c))
regroup true b c = refl
regroup false b c = refl

nothing_more : (b : Bool) → (b || false) ≡ b
nothing_more true = refl
nothing_more false = refl

-- one more item
pub letters_more : (old new : Alphabet) (s rest : List ℕ) (r : Range) (all : List Range) → item_front s ≡ found r rest
    → ((x : ℕ) → has_letter new x ≡ (has_letter old x || is_between x r))
    → ((x : ℕ) → (has_letter old x || is_named (items_front s).0 x) ≡ is_named all x)
    → (x : ℕ) → (has_letter new x || is_named (items_front rest).0 x) ≡ is_named all x
letters_more old new s rest r all e more before x =
    let named : Bool = is_named (items_front rest).0 x in
    ap (λ b. b || named) (more x) ∙ regroup (has_letter old x) (is_between x r) named
    ∙ ap (λ (p : Items). has_letter old x || is_named p.0 x) (sym (items_more s r rest e)) ∙ before x

pub rest_more : (s rest : List ℕ) (r : Range) (end : List ℕ) → item_front s ≡ found r rest → (items_front s).1 ≡ end → (items_front rest).1 ≡ end
rest_more s rest r end e before = ap (λ (p : Items). p.1) (sym (items_more s r rest e)) ∙ before

-- and the last
pub letters_all : (a : Alphabet) (text rest : List ℕ) → item_front rest ≡ None
    → ((x : ℕ) → (has_letter a x || is_named (items_front rest).0 x) ≡ is_named (items_front (after_blanks text)).0 x)
    → (items_front rest).1 ≡ (items_front (after_blanks text)).1
    → (let r : List ℕ × List ℕ = (letters_of a, rest) in r) ≡ letters_front text
letters_all a text rest e letters end =
    let none : items_front rest ≡ items_and [] rest = stop_here (length rest) rest e in
    let agree : (x : ℕ) → has_letter a x ≡ is_named (items_front (after_blanks text)).0 x =
    λ x. sym (nothing_more (has_letter a x)) ∙ ap (λ (p : Items). has_letter a x || is_named p.0 x) (sym none) ∙ letters x in
    let same : letters_of a ≡ letters_in (items_front (after_blanks text)).0 = sym (letters_agree a (items_front (after_blanks text)).0 agree) in
    let behind : rest ≡ (items_front (after_blanks text)).1 = ap (λ (p : Items). p.1) (sym none) ∙ end in
    ap (λ l. (let r : List ℕ × List ℕ = (l, rest) in r)) same ∙ ap (λ t. (let r : List ℕ × List ℕ = (letters_in (items_front (after_blanks text)).0, t) in r)) behind

-- between two letters stand letters alone
pub between_letters : (first last x : ℕ) → IsTrue (is_letter first) → IsTrue (is_letter last) → (is_letter x && (nat_le first x && nat_le x last)) ≡ (nat_le first x && nat_le x last)
between_letters first last x low high = grind (arith, nat_tests)
