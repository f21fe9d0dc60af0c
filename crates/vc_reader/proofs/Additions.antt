-- What is added, one after the other.
use Rattle.std.proofs.Common.{◌≡◌, ◌++◌, ℕ, Bool, true, false, List, [], ◌∷◌, Option, Result, Ok, Err, map, refl, ap, ap₂, sym, ◌∙◌, subst, inl, inr}
use Rattle.std.specs.Prelude.{if◌then◌else◌, option_to_list}
use Rattle.vc_aut.specs.Drafts.{Draft}
use Rattle.vc_model.specs.Lists.{In}
use Rattle.vc_model.specs.WeightSet.{WeightSet}
use Rattle.vc_ring.specs.declared.faults.MakeFault.{MakeFault}
use Rattle.vc_ring.specs.declared.faults.MakeFault.TheVariants.{Overflow as Unfit, Limit as PastLimit, Memory}
use Rattle.vc_ring.specs.declared.faults.Overflow.TheVariants.{Numeral, Add, Mul, Star}
use Rattle.vc_lex.specs.Labels.{class_words, label_words}
use Rattle.vc_lex.specs.Marks.{Mark}
use Rattle.vc_lex.specs.Parts.{is_class, class_body, parts_word}
use Rattle.vc_label.specs.declared.tape_set.TapeSet.{TapeSet}
use Rattle.vc_model.specs.Words.{Word}
use Rattle.vc_lines.specs.Grammar.{entry_weight, entry_label}
use Rattle.vc_reader.specs.Meaning.{Given, moves_with, weight_of, given_by_entry}
use Rattle.vc_reader.specs.Building.{with_given, with_all, AreTaken, IsRefused, HasNumeral, HaveNumbers, IsAdded}

pub in_front : {X : Type 0} (x : X) (xs ys : List X) → In x xs → In x (xs ++ ys)
in_front x [] ys h = absurd h
in_front x (y ∷ xs) ys (inl e) = inl e
in_front x (y ∷ xs) ys (inr h) = inr (in_front x xs ys h)

pub in_back : {X : Type 0} (x : X) (xs ys : List X) → In x ys → In x (xs ++ ys)
in_back x [] ys h = h
in_back x (y ∷ xs) ys h = inr (in_back x xs ys h)

module _ {V : Type 0} (R : WeightSet V) (spelled : List ℕ → Option V) (fit : List ℕ → Bool) where
  pub numbers_join : (ms ns : List Mark) → HaveNumbers R spelled fit ms → HaveNumbers R spelled fit ns → HaveNumbers R spelled fit (ms ++ ns)
  numbers_join [] ns h k n i = k n i
  numbers_join (m ∷ ms) ns h k n (inl e) = h n (inl e)
  numbers_join (m ∷ ms) ns h k n (inr i) = numbers_join ms ns (λ x j. h x (inr j)) k n i

  numeral_front : (ms ns : List Mark) (at : ℕ) → HasNumeral R spelled fit ms at → HasNumeral R spelled fit (ms ++ ns) at
  numeral_front ms ns at (m, i, e, p) = (m, in_front m ms ns i, e, p)

  numeral_back : (ms ns : List Mark) (at : ℕ) → HasNumeral R spelled fit ns at → HasNumeral R spelled fit (ms ++ ns) at
  numeral_back ms ns at (m, i, e, p) = (m, in_back m ms ns i, e, p)

  pub refused_front : (d : Draft V) (gs hs : List (Given V)) (f : MakeFault V) → IsRefused R d gs f → IsRefused R d (gs ++ hs) f
  refused_front d [] hs f h = absurd h
  refused_front d (g ∷ gs) hs f (inl e) = inl e
  refused_front d (g ∷ gs) hs f (inr (e, h)) = inr (e, refused_front (with_given R d g) gs hs f h)

  pub refused_back : (d : Draft V) (gs hs : List (Given V)) (f : MakeFault V) → AreTaken R d gs → IsRefused R (with_all R d gs) hs f → IsRefused R d (gs ++ hs) f
  refused_back d [] hs f t h = h
  refused_back d (g ∷ gs) hs f (e, t) h = inr (e, refused_back (with_given R d g) gs hs f t h)

  pub taken_join : (d : Draft V) (gs hs : List (Given V)) → AreTaken R d gs → AreTaken R (with_all R d gs) hs → AreTaken R d (gs ++ hs)
  taken_join d [] hs t h = h
  taken_join d (g ∷ gs) hs (e, t) h = (e, taken_join (with_given R d g) gs hs t h)

  pub with_all-append : (d : Draft V) (gs hs : List (Given V)) → with_all R d (gs ++ hs) ≡ with_all R (with_all R d gs) hs
  with_all-append d [] hs = refl
  with_all-append d (g ∷ gs) hs = with_all-append (with_given R d g) gs hs

  -- whatever adds these from here on adds all
  abbrev pub LeadsTo : List Mark → Draft V → List (Given V) → List Mark → Draft V → List (Given V) → Type 0
  LeadsTo ms d gs ns e hs = (new : Draft V) (r : Result (Unit {0}) (MakeFault V)) → IsAdded R spelled fit ms d gs new r → IsAdded R spelled fit ns e hs new r

  pub leads_itself : (ms : List Mark) (d : Draft V) (gs : List (Given V)) → LeadsTo ms d gs ms d gs
  leads_itself ms d gs new r h = h

  -- what was added is followed by more
  pub leads_more : (ms ns : List Mark) (d mid : Draft V) (gs hs : List (Given V)) (u : Unit {0}) → IsAdded R spelled fit ms d gs mid (Ok u) → LeadsTo ns mid hs (ms ++ ns) d (gs ++ hs)
  leads_more ms ns d mid gs hs u (e, t, n) new (Ok v) (f, t', n') =
      (f ∙ ap (λ x. with_all R x hs) e ∙ sym (with_all-append d gs hs), taken_join d gs hs t (subst (λ x. AreTaken R x hs) e t'), numbers_join ms ns n n')
  leads_more ms ns d mid gs hs u (e, t, n) new (Err (Unfit (Numeral at))) h = numeral_back ms ns at h
  leads_more ms ns d mid gs hs u (e, t, n) new (Err (Unfit (Add v w))) h = refused_back d gs hs (Unfit (Add v w)) t (subst (λ x. IsRefused R x hs (Unfit (Add v w))) e h)
  leads_more ms ns d mid gs hs u (e, t, n) new (Err (Unfit (Mul v w))) h = h
  leads_more ms ns d mid gs hs u (e, t, n) new (Err (Unfit (Star v))) h = h
  leads_more ms ns d mid gs hs u (e, t, n) new (Err (PastLimit l)) h = refused_back d gs hs (PastLimit l) t (subst (λ x. IsRefused R x hs (PastLimit l)) e h)
  leads_more ms ns d mid gs hs u (e, t, n) new (Err (Memory x)) h = tt

  -- what was refused is refused of more
  pub refused_more : (ms ns : List Mark) (d mid new : Draft V) (gs hs : List (Given V)) (f : MakeFault V) → IsAdded R spelled fit ms d gs mid (Err f) → IsAdded R spelled fit (ms ++ ns) d (gs ++ hs) new (Err f)
  refused_more ms ns d mid new gs hs (Unfit (Numeral at)) h = numeral_front ms ns at h
  refused_more ms ns d mid new gs hs (Unfit (Add v w)) h = refused_front d gs hs (Unfit (Add v w)) h
  refused_more ms ns d mid new gs hs (Unfit (Mul v w)) h = h
  refused_more ms ns d mid new gs hs (Unfit (Star v)) h = h
  refused_more ms ns d mid new gs hs (PastLimit l) h = refused_front d gs hs (PastLimit l) h
  refused_more ms ns d mid new gs hs (Memory x) h = tt

  pub leads_on : (ms ns os : List Mark) (d mid last : Draft V) (gs hs is : List (Given V)) → LeadsTo ms d gs ns mid hs → LeadsTo ns mid hs os last is → LeadsTo ms d gs os last is
  leads_on ms ns os d mid last gs hs is f g new r h = g new r (f new r h)

  -- with a weight whose number is in its range
  pub weighted : (ms : List Mark) (d new : Draft V) (gs : List (Given V)) (r : Result (Unit {0}) (MakeFault V)) → HaveNumbers R spelled fit ms → IsAdded R spelled fit [] d gs new r → IsAdded R spelled fit ms d gs new r
  weighted ms d new gs (Ok u) n (e, t, k) = (e, t, n)
  weighted ms d new gs (Err (Unfit (Numeral at))) n (m, i, e, p) = absurd i
  weighted ms d new gs (Err (Unfit (Add v w))) n h = h
  weighted ms d new gs (Err (Unfit (Mul v w))) n h = h
  weighted ms d new gs (Err (Unfit (Star v))) n h = h
  weighted ms d new gs (Err (PastLimit l)) n h = h
  weighted ms d new gs (Err (Memory x)) n h = tt

  module _ (sets : List TapeSet) (from to : ℕ) (ms ls : List Mark) (o : Option Mark) (w : V) (d new : Draft V) (r : Result (Unit {0}) (MakeFault V)) where
    entry_words : (words : List Word) → o ≡ entry_weight ms → ls ≡ entry_label ms → w ≡ weight_of R spelled o → label_words sets ls ≡ words → HaveNumbers R spelled fit (option_to_list o)
        → IsAdded R spelled fit [] d (map (moves_with from to w) words) new r → IsAdded R spelled fit (option_to_list (entry_weight ms)) d (given_by_entry R spelled sets from to ms) new r
    entry_words words oe le we words_are n h =
        let e = ap₂ (λ v ws. map (moves_with from to v) ws) (we ∙ ap (weight_of R spelled) oe) (sym words_are ∙ ap (label_words sets) le) in
        subst (λ x. IsAdded R spelled fit (option_to_list x) d (given_by_entry R spelled sets from to ms) new r) oe
        (subst (λ gs. IsAdded R spelled fit (option_to_list o) d gs new r) e (weighted (option_to_list o) d new (map (moves_with from to w) words) r n h))

    -- an entry with a class
    pub class_entry : (body : List ℕ) → o ≡ entry_weight ms → ls ≡ entry_label ms → (w ≡ weight_of R spelled o) × HaveNumbers R spelled fit (option_to_list o) → is_class ls ≡ true → body ≡ class_body ls
        → IsAdded R spelled fit [] d (map (moves_with from to w) (class_words sets body)) new r → IsAdded R spelled fit (option_to_list (entry_weight ms)) d (given_by_entry R spelled sets from to ms) new r
    class_entry body oe le n c b h =
        entry_words (class_words sets body) oe le n.0 (ap (λ x. if x then class_words sets (class_body ls) else parts_word ls ∷ []) c ∙ ap (class_words sets) (sym b)) n.1 h

    -- an entry with parts
    pub parts_entry : o ≡ entry_weight ms → ls ≡ entry_label ms → (w ≡ weight_of R spelled o) × HaveNumbers R spelled fit (option_to_list o) → is_class ls ≡ false
        → IsAdded R spelled fit [] d (moves_with from to w (parts_word ls) ∷ []) new r → IsAdded R spelled fit (option_to_list (entry_weight ms)) d (given_by_entry R spelled sets from to ms) new r
    parts_entry oe le n c h =
        entry_words (parts_word ls ∷ []) oe le n.0 (ap (λ x. if x then class_words sets (class_body ls) else parts_word ls ∷ []) c) n.1 h
