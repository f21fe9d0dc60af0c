-- The cuts of words and the pairs of position sets, one after the other.
use Rattle.std.proofs.Common.{◌≡◌, ℕ, ◌≤◌, ◌<◌, ◌+◌, arith, suc, zero, List, [], ◌∷◌, ◌++◌, append_assoc, append-nil, get_or, ◌-◌, map, length, take, drop, refl, sym, ap, ◌∙◌, Bool, true, false, Some, None, All, IsTrue, inl, inr}
use Rattle.std.specs.List.{flat_map}
use Rattle.std.proofs.lemmas.List.{drop_more, take_rest}
use Rattle.std.proofs.lemmas.List.Elements.{All-cons, All-map}
use Rattle.vc_label.specs.Letters.{are_letters, is_letter}
use Rattle.vc_model.specs.Lists.{In}
use Rattle.vc_model.specs.Words.{Word, Tape, cuts, tape_cuts, join, cut, is_empty, same_word, emptied, empty_word, position_sets, letters_at, letters_off}
use Rattle.vc_model.specs.WordLaws.{bool_same, and_parts, and_both, same_word-true, same_word_is, join-cut, cut-join, join-empty_right, length-empty_word, size-is_empty, empty_from_size, is_empty-emptied}
use Rattle.vc_model.specs.Cuts.{cuts-In}
use Rattle.vc_series.specs.Steps.{tape_pairs}

-- the cuts of a word of one tape
pub cuts_one : (a : Tape) → cuts (a ∷ []) ≡ flat_map (λ (c : Tape × Tape). (c.0 ∷ [], c.1 ∷ []) ∷ []) (tape_cuts a)
cuts_one a = refl

-- the cut of a tape behind its first k letters, and what comes after it
drop_map : {X Y : Type 0} (f : X → Y) (k : ℕ) (xs : List X) → drop k (map f xs) ≡ map f (drop k xs)
drop_map f zero xs = refl
drop_map f (suc k) [] = refl
drop_map f (suc k) (x ∷ xs) = drop_map f k xs

cut_here : (k : ℕ) (a : Tape) → k ≤ length a → drop k (tape_cuts a) ≡ (take k a, drop k a) ∷ drop (suc k) (tape_cuts a)
cut_here zero [] h = refl
cut_here zero (x ∷ a) h = refl
cut_here (suc k) [] h = absurd (omega arith)
cut_here (suc k) (x ∷ a) h =
    let more : drop k (tape_cuts a) ≡ (take k a, drop k a) ∷ drop (suc k) (tape_cuts a) = cut_here k a (omega arith) in
    drop_map (λ (c : Tape × Tape). (x ∷ c.0, c.1)) k (tape_cuts a) ∙ ap (map (λ (c : Tape × Tape). (x ∷ c.0, c.1))) more
    ∙ ap (λ r. (x ∷ take k a, drop k a) ∷ r) (sym (drop_map (λ (c : Tape × Tape). (x ∷ c.0, c.1)) (suc k) (tape_cuts a)))

cut_at : (k : ℕ) (a : Tape) → k ≤ length a → drop k (tape_cuts a) ≡ (take k a, drop k a) ∷ drop (k + 1) (tape_cuts a)
cut_at k a h = let e : suc k ≡ k + 1 = omega arith in cut_here k a h ∙ ap (λ n. (take k a, drop k a) ∷ drop n (tape_cuts a)) e

no_cuts : (a : Tape) → drop (suc (length a)) (tape_cuts a) ≡ []
no_cuts [] = refl
no_cuts (x ∷ a) = drop_map (λ (c : Tape × Tape). (x ∷ c.0, c.1)) (suc (length a)) (tape_cuts a) ∙ ap (map (λ (c : Tape × Tape). (x ∷ c.0, c.1))) (no_cuts a)

cuts_end : (n : ℕ) (a : Tape) → n ≡ length a + 1 → drop n (tape_cuts a) ≡ []
cuts_end n a e = let q : n ≡ suc (length a) = omega (arith, e) in ap (λ m. drop m (tape_cuts a)) q ∙ no_cuts a

-- one cut more, where what stands and what the cuts from here on make is all
pub add_cut : {X : Type 0} (g : Tape × Tape → List X) (k : ℕ) (a : Tape) (done more all : List X) → k < length a + 1
    → done ++ flat_map g (drop k (tape_cuts a)) ≡ all → more ≡ done ++ g (take k a, take (length a - k) (drop k a)) → more ++ flat_map g (drop (k + 1) (tape_cuts a)) ≡ all
add_cut g k a done more all h e q =
    ap (λ m. m ++ flat_map g (drop (k + 1) (tape_cuts a))) (q ∙ ap (λ r. done ++ g (take k a, r)) (take_rest a k)) ∙ append_assoc done (g (take k a, drop k a)) (flat_map g (drop (k + 1) (tape_cuts a)))
    ∙ ap (λ cs. done ++ flat_map g cs) (sym (cut_at k a (omega arith))) ∙ e

pub all_cuts : {X : Type 0} (g : Tape × Tape → List X) (n : ℕ) (a : Tape) (done all : List X) → n ≡ length a + 1 → done ++ flat_map g (drop n (tape_cuts a)) ≡ all → done ≡ all
all_cuts g n a done all h e = sym (append-nil done) ∙ ap (λ cs. done ++ flat_map g cs) (sym (cuts_end n a h)) ∙ e

-- the letters of a piece
pub letters_take : (k : ℕ) (a : Tape) → IsTrue (are_letters a) → IsTrue (are_letters (take k a))
letters_take zero a h = refl
letters_take (suc k) [] h = h
letters_take (suc k) (x ∷ a) h = let p = and_parts (is_letter x) (are_letters a) h in and_both (is_letter x) (are_letters (take k a)) p.0 (letters_take k a p.1)

pub letters_drop : (k : ℕ) (a : Tape) → IsTrue (are_letters a) → IsTrue (are_letters (drop k a))
letters_drop zero a h = h
letters_drop (suc k) [] h = h
letters_drop (suc k) (x ∷ a) h = let p = and_parts (is_letter x) (are_letters a) h in letters_drop k a p.1

-- a fact of each member, by its place
pub at_places : {X : Type 0} (P : X → Type 0) (xs : List X) → ((x : X) → In x xs → P x) → All P xs
at_places P [] h = λ k d lt. absurd (omega arith)
at_places P (x ∷ xs) h = All-cons P x xs (h x (inl refl)) (at_places P xs (λ y i. h y (inr i)))

pub cuts_tapes : (n : ℕ) (w : Word) → length w < n → All (λ d. (length d.0 < n) × (length d.1 < n)) (cuts w)
cuts_tapes n w h = at_places (λ d. (length d.0 < n) × (length d.1 < n)) (cuts w) (λ d i. let c = cuts-In w d i in (omega (arith, c.1), omega (arith, c.2)))

-- the pairs of a tape with a letter in front
abbrev pub in_first : ℕ → Word × Word → Word × Word
in_first x d = (join ((x ∷ []) ∷ []) d.0, d.1)

abbrev pub in_second : ℕ → Word × Word → Word × Word
in_second x d = (d.0, join ((x ∷ []) ∷ []) d.1)

pub pairs_more : (x : ℕ) (a : Tape) → tape_pairs (x ∷ a) ≡ map (in_first x) (tape_pairs a) ++ map (in_second x) (tape_pairs a)
pairs_more x a = go (position_sets (length a)) (position_sets (length a))
  where
    seconds : (Q : List (List Bool)) → map (λ (I : List Bool). (letters_at I (x ∷ a) ∷ [], letters_off I (x ∷ a) ∷ [])) (map (λ I. false ∷ I) Q) ≡ map (in_second x) (map (λ I. (letters_at I a ∷ [], letters_off I a ∷ [])) Q)
    seconds [] = refl
    seconds (I ∷ Q) = ap (λ r. (letters_at I a ∷ [], (x ∷ letters_off I a) ∷ []) ∷ r) (seconds Q)

    go : (P Q : List (List Bool)) → map (λ (I : List Bool). (letters_at I (x ∷ a) ∷ [], letters_off I (x ∷ a) ∷ [])) (map (λ I. true ∷ I) P ++ map (λ I. false ∷ I) Q)
        ≡ map (in_first x) (map (λ I. (letters_at I a ∷ [], letters_off I a ∷ [])) P) ++ map (in_second x) (map (λ I. (letters_at I a ∷ [], letters_off I a ∷ [])) Q)
    go [] Q = seconds Q
    go (I ∷ P) Q = ap (λ r. ((x ∷ letters_at I a) ∷ [], letters_off I a ∷ []) ∷ r) (go P Q)

pub pairs_tapes : (a : Tape) → All (λ d. (length d.0 ≡ 1) × (length d.1 ≡ 1)) (tape_pairs a)
pairs_tapes a = All-map (λ (d : Word × Word). (length d.0 ≡ 1) × (length d.1 ≡ 1)) (λ I. (letters_at I a ∷ [], letters_off I a ∷ [])) (position_sets (length a)) (λ k d lt. (refl, refl))

-- what follows a label in a word is empty where the word is that of the label
pub rest_tells : (a w r : Word) → Some r ≡ cut a w → is_empty r ≡ same_word a w
rest_tells a w r e = bool_same (is_empty r) (same_word a w)
    (λ h. let j = join-cut a w r (sym e) in
    let z : r ≡ empty_word (length r) = empty_from_size r (size-is_empty r h) in
    same_word_is a w (sym (join-empty_right (length r) a (j.2 ∙ sym j.1)) ∙ ap (join a) (sym z) ∙ j.0))
    (λ h. let q : a ≡ w = same_word-true a w h in
    let s : cut a a ≡ Some (emptied a) = ap (cut a) (sym (join-empty_right (length a) a refl)) ∙ cut-join a (emptied a) (sym (length-empty_word (length a))) in
    let t : r ≡ emptied a = cc in
    ap is_empty t ∙ is_empty-emptied a)

pub no_rest : (a w : Word) → None ≡ cut a w → false ≡ same_word a w
no_rest a w e = bool_same false (same_word a w) (λ h. absurd (cc))
    (λ h. let q : a ≡ w = same_word-true a w h in
    let s : cut a a ≡ Some (emptied a) = ap (cut a) (sym (join-empty_right (length a) a refl)) ∙ cut-join a (emptied a) (sym (length-empty_word (length a))) in
    absurd (cc))

-- a letter more in front, by places
pub letter_at : (k : ℕ) (a : Tape) (d : ℕ) → k < length a → IsTrue (are_letters a) → IsTrue (is_letter (get_or a k d))
letter_at k [] d l h = absurd (omega arith)
letter_at zero (x ∷ a) d l h = (and_parts (is_letter x) (are_letters a) h).0
letter_at (suc k) (x ∷ a) d l h = letter_at k a d (omega arith) (and_parts (is_letter x) (are_letters a) h).1

pub pairs_before : (k : ℕ) (a : Tape) (items : List (Word × Word)) → 0 < k → k ≤ length a
    → items ≡ map (in_first (get_or a (k - 1) 0)) (tape_pairs (drop k a)) ++ map (in_second (get_or a (k - 1) 0)) (tape_pairs (drop k a)) → items ≡ tape_pairs (drop (k - 1) a)
pairs_before k a items p h e =
    let n : k - 1 + 1 ≡ k = omega arith in
    e ∙ sym (pairs_more (get_or a (k - 1) 0) (drop k a)) ∙ ap (λ m. tape_pairs (get_or a (k - 1) 0 ∷ drop m a)) (sym n) ∙ ap tape_pairs (sym (drop_more a (k - 1) 0 (omega arith)))

-- a tape more in front, by places
pub cuts_before : (k : ℕ) (w : Word) (items : List (Word × Word)) → 0 < k → k < length w
    → items ≡ flat_map (λ c. map (λ d. (c.0 ∷ d.0, c.1 ∷ d.1)) (cuts (drop k w))) (tape_cuts (get_or w (k - 1) [])) → items ≡ cuts (drop (k - 1) w)
cuts_before k w items p h e =
    let n : k - 1 + 1 ≡ k = omega arith in
    e ∙ ap (λ m. cuts (get_or w (k - 1) [] ∷ drop m w)) (sym n) ∙ ap cuts (sym (drop_more w (k - 1) [] (omega arith)))
