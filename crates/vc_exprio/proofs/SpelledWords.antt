-- Words and their texts.
use Rattle.std.proofs.Common.{◌≡◌, ◌≢◌, inl, inr, ℕ, Bool, true, false, List, [], ◌∷◌, ◌++◌, Some, None, IsTrue, refl, ap, sym, ◌∙◌, subst, append_assoc, ◌≤◌, ◌<◌, length, length-append, arith, ◌==◌, suc}
use Rattle.std.proofs.lemmas.Bool.{false≢true}
use Rattle.std.proofs.lemmas.Bool.Decides.{nat_tests}
use Rattle.std.specs.List.{flat_map}
use Rattle.vc_exprio.proofs.Letters.{both_true}
use Rattle.vc_exprio.proofs.PartTexts.{Ends, at_end, at_bar, FindsPart, part_sound, part_complete}
use Rattle.vc_exprio.specs.WordParts.{Found, part_at, LeavesRest}
use Rattle.vc_text.specs.Escapes.{unescaped}
use Rattle.vc_exprio.specs.Words.{BeginsPart, SpellsWord, IsPartText, part_text, word_text}
use Rattle.vc_label.specs.Letters.{are_letters, is_of_letters}
use Rattle.vc_model.specs.Words.{Word, Tape}

-- ---- a text spells at most one word

-- a text that begins with two parts, each in front of an end or a bar, begins with one
one_part : (text : List ℕ) (a b : Tape) (r s : List ℕ) → Ends r → Ends s → BeginsPart text a r → BeginsPart text b s → (a ≡ b) × (r ≡ s)
one_part text a b r s er es p q =
    let f = part_complete text a r er p in
    let g = part_complete text b s es q in
    let same : f.found ≡ g.found = cc in
    (sym f.letters ∙ ap (λ x. unescaped x.letters) same ∙ g.letters, sym f.after ∙ ap (λ x. x.after) same ∙ g.after)

tail_of : (r s : List ℕ) → 124 ∷ r ≡ 124 ∷ s → r ≡ s
tail_of r s e = cc

pub one_word : (text : List ℕ) (v w : Word) → SpellsWord text v → SpellsWord text w → v ≡ w
one_word text [] w h k = absurd h
one_word text v [] h k = absurd k
one_word text (a ∷ []) (b ∷ []) h k = ap (λ x. x ∷ []) (one_part text a b [] [] at_end at_end h k).0
one_word text (a ∷ []) (b ∷ c ∷ w) h (s, k, m) = absurd (let e = (one_part text a b [] (124 ∷ s) at_end (at_bar s) h k).1 in cc)
one_word text (a ∷ b ∷ v) (c ∷ []) (r, h, m) k = absurd (let e = (one_part text a c (124 ∷ r) [] (at_bar r) at_end h k).1 in cc)
one_word text (a ∷ b ∷ v) (c ∷ d ∷ w) (r, h, m) (s, k, n) =
    let e = one_part text a c (124 ∷ r) (124 ∷ s) (at_bar r) (at_bar s) h k in
    let rest : b ∷ v ≡ d ∷ w = one_word s (b ∷ v) (d ∷ w) (subst (λ t. SpellsWord t (b ∷ v)) (tail_of r s e.1) m) n in
    cc

-- ---- the parts are read one by one

pub at_begin : (text : List ℕ) → LeavesRest text [] text
at_begin text = record { sound = λ w h. h; complete = λ w h. (w, refl, h) }

pub part_more : (text rest r : List ℕ) (tapes : Word) (f : Found) → LeavesRest text tapes rest → part_at rest ≡ Some f → f.after ≡ 124 ∷ r → LeavesRest text (tapes ++ unescaped f.letters ∷ []) r
part_more text rest r tapes f l e k = record { sound = sound; complete = λ w h. complete w (l.complete w h) }
  where
    here : BeginsPart rest (unescaped f.letters) (124 ∷ r)
    here = subst (BeginsPart rest (unescaped f.letters)) k (part_sound rest f e)

    sound : (w : Word) → SpellsWord r w → SpellsWord text (tapes ++ unescaped f.letters ∷ [] ++ w)
    sound [] h = absurd h
    sound (b ∷ w) h = subst (SpellsWord text) (sym (append_assoc tapes (unescaped f.letters ∷ []) (b ∷ w))) (l.sound (unescaped f.letters ∷ b ∷ w) (r, here, h))

    rest_of : (w v : Word) → w ≡ tapes ++ v → SpellsWord rest v → (u : Word) × (w ≡ tapes ++ unescaped f.letters ∷ [] ++ u) × SpellsWord r u
    rest_of w [] q h = absurd h
    rest_of w (a ∷ []) q h = absurd (let e = (one_part rest a (unescaped f.letters) [] (124 ∷ r) at_end (at_bar r) h here).1 in cc)
    rest_of w (a ∷ b ∷ v) q (s, h, m) =
        let o = one_part rest a (unescaped f.letters) (124 ∷ s) (124 ∷ r) (at_bar s) (at_bar r) h here in
        (b ∷ v, q ∙ ap (λ x. tapes ++ x ∷ b ∷ v) o.0 ∙ sym (append_assoc tapes (unescaped f.letters ∷ []) (b ∷ v)), subst (λ t. SpellsWord t (b ∷ v)) (tail_of s r o.1) m)

    complete : (w : Word) → ((v : Word) × (w ≡ tapes ++ v) × SpellsWord rest v) → (u : Word) × (w ≡ tapes ++ unescaped f.letters ∷ [] ++ u) × SpellsWord r u
    complete w (v, q, h) = rest_of w v q h

pub part_last : (text rest : List ℕ) (tapes : Word) (f : Found) → LeavesRest text tapes rest → part_at rest ≡ Some f → f.after ≡ [] → SpellsWord text (tapes ++ unescaped f.letters ∷ [])
part_last text rest tapes f l e k = l.sound (unescaped f.letters ∷ []) (subst (BeginsPart rest (unescaped f.letters)) k (part_sound rest f e))

-- where nothing in front of an end or a bar is found, no word is spelled
abbrev IsStuck : List ℕ → Type 0
IsStuck rest = (a : Tape) (r : List ℕ) → Ends r → BeginsPart rest a r → ⊥

stuck_none : (text rest : List ℕ) (tapes : Word) → LeavesRest text tapes rest → IsStuck rest → (w : Word) → SpellsWord text w → ⊥
stuck_none text rest tapes l stuck w h = go (l.complete w h)
  where
    none : (v : Word) → SpellsWord rest v → ⊥
    none [] k = k
    none (a ∷ []) k = stuck a [] at_end k
    none (a ∷ b ∷ v) (r, k, m) = stuck a (124 ∷ r) (at_bar r) k

    go : ((v : Word) × (w ≡ tapes ++ v) × SpellsWord rest v) → ⊥
    go (v, q, k) = none v k

pub part_missing : (text rest : List ℕ) (tapes : Word) → LeavesRest text tapes rest → part_at rest ≡ None → (w : Word) → SpellsWord text w → ⊥
part_missing text rest tapes l e = stuck_none text rest tapes l (λ a r ends p. let f = part_complete rest a r ends p in let g = f.is in absurd (cc))

pub part_broken : (text rest : List ℕ) (tapes : Word) (f : Found) → LeavesRest text tapes rest → part_at rest ≡ Some f → f.after ≢ [] → ((r : List ℕ) → f.after ≡ 124 ∷ r → ⊥) → (w : Word) → SpellsWord text w → ⊥
part_broken text rest tapes f l e none bar = stuck_none text rest tapes l (λ a r ends p. go a r ends (part_complete rest a r ends p))
  where
    same : (a : Tape) (r : List ℕ) → FindsPart rest a r → f.after ≡ r
    same a r g = let q : f ≡ g.found = (let k = g.is in cc) in ap (λ x. x.after) q ∙ g.after

    go : (a : Tape) (r : List ℕ) → Ends r → FindsPart rest a r → ⊥
    go a r (inl z) g = none (same a r g ∙ z)
    go a r (inr (s, z)) g = bar s (same a r g ∙ z)

-- ---- the canonical text is read

part_text_is : (a : Tape) → IsPartText (part_text a) a
part_text_is [] = inl (refl, refl)
part_text_is (x ∷ a) = inr (inl ((λ e. absurd (cc)), refl))

part_begins : (a : Tape) (rest : List ℕ) → IsTrue (are_letters a) → BeginsPart (part_text a ++ rest) a rest
part_begins a rest l = record { before = []; part = part_text a; behind = []; is = refl; blank_before = refl; blank_behind = refl; spells = part_text_is a; letters = l }

text_read : (a : Tape) (w : Word) → IsTrue (are_letters a) → IsTrue (is_of_letters w) → SpellsWord (part_text a ++ flat_map (λ b. 124 ∷ part_text b) w) (a ∷ w)
text_read a [] l ls = part_begins a [] l
text_read a (b ∷ w) l ls =
    let each = both_true (are_letters b) (is_of_letters w) ls in
    (part_text b ++ flat_map (λ c. 124 ∷ part_text c) w, part_begins a (124 ∷ (part_text b ++ flat_map (λ c. 124 ∷ part_text c) w)) l, text_read b w each.0 each.1)

pub word_read : (w : Word) → w ≢ [] → IsTrue (is_of_letters w) → SpellsWord (word_text w) w
word_read [] some l = absurd (some refl)
word_read (a ∷ w) some l = let each = both_true (are_letters a) (is_of_letters w) l in text_read a w each.0 each.1

-- what stands behind a part is shorter than the text, or as long
pub part_shorter : (text : List ℕ) (f : Found) → part_at text ≡ Some f → length f.after ≤ length text
part_shorter text f e =
    let p = part_sound text f e in
    let q = ap length p.is in
    let a = length-append p.before (p.part ++ (p.behind ++ f.after)) in
    let b = length-append p.part (p.behind ++ f.after) in
    let d = length-append p.behind f.after in
    omega (arith, q, a, b, d)

pub shorter_rest : (text rest : List ℕ) (f : Found) → part_at text ≡ Some f → f.after ≡ 124 ∷ rest → length rest < length text
shorter_rest text rest f e bar = let l = part_shorter text f e in let k = ap length bar in omega (arith, l, k)

no_zero : (n : ℕ) → (suc n == 0) ≡ false
no_zero n = grind (arith, nat_tests)

pub empty : (s : List ℕ) (b : Bool) → b ≡ (length s == 0) → b ≡ true → s ≡ []
empty [] b e f = refl
empty (x ∷ s) b e f = absurd (false≢true (sym (no_zero (length s)) ∙ sym e ∙ f))

pub full : (s : List ℕ) (b : Bool) → b ≡ (length s == 0) → b ≡ false → s ≢ []
full [] b e f = absurd (false≢true (sym f ∙ e))
full (x ∷ s) b e f = λ h. absurd (cc)
