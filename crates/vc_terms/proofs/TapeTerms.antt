-- The tapes of an expression, and that no label in it is empty.
use Rattle.std.proofs.Common.{ℕ}
use Rattle.vc_terms.specs.Terms.{Term, Terms, NoTerms, MoreTerms, Zero, One, Atom, Sum, Product, Star, Weight, Both, Shuffle, HasTapes, HaveTapes, IsOnTapes, AreOnTapes, HasFullLabels, HaveFullLabels}

module _ {V : Type 0} where
  mutual
    pub on_tapes : (tapes : ℕ) (t : Term V) → HasTapes tapes t → IsOnTapes tapes t
    on_tapes tapes Zero h = tt
    on_tapes tapes One h = tt
    on_tapes tapes (Atom a) h = h.0
    on_tapes tapes (Sum ts) h = all_on_tapes tapes ts h
    on_tapes tapes (Product ts) h = all_on_tapes tapes ts h
    on_tapes tapes (Star t) h = on_tapes tapes t h
    on_tapes tapes (Weight k t) h = on_tapes tapes t h
    on_tapes tapes (Both t u) h = (on_tapes tapes t h.0, on_tapes tapes u h.1)
    on_tapes tapes (Shuffle t u) h = (h.0, on_tapes tapes t h.1, on_tapes tapes u h.2)

    all_on_tapes : (tapes : ℕ) (ts : Terms V) → HaveTapes tapes ts → AreOnTapes tapes ts
    all_on_tapes tapes NoTerms h = tt
    all_on_tapes tapes (MoreTerms t ts) h = (on_tapes tapes t h.0, all_on_tapes tapes ts h.1)

  mutual
    pub full_labels : (tapes : ℕ) (t : Term V) → HasTapes tapes t → HasFullLabels t
    full_labels tapes Zero h = tt
    full_labels tapes One h = tt
    full_labels tapes (Atom a) h = h.1
    full_labels tapes (Sum ts) h = all_full_labels tapes ts h
    full_labels tapes (Product ts) h = all_full_labels tapes ts h
    full_labels tapes (Star t) h = full_labels tapes t h
    full_labels tapes (Weight k t) h = full_labels tapes t h
    full_labels tapes (Both t u) h = (full_labels tapes t h.0, full_labels tapes u h.1)
    full_labels tapes (Shuffle t u) h = (full_labels tapes t h.1, full_labels tapes u h.2)

    all_full_labels : (tapes : ℕ) (ts : Terms V) → HaveTapes tapes ts → HaveFullLabels ts
    all_full_labels tapes NoTerms h = tt
    all_full_labels tapes (MoreTerms t ts) h = (full_labels tapes t h.0, all_full_labels tapes ts h.1)

  mutual
    pub has_tapes : (tapes : ℕ) (t : Term V) → IsOnTapes tapes t → HasFullLabels t → HasTapes tapes t
    has_tapes tapes Zero h k = tt
    has_tapes tapes One h k = tt
    has_tapes tapes (Atom a) h k = (h, k)
    has_tapes tapes (Sum ts) h k = have_tapes tapes ts h k
    has_tapes tapes (Product ts) h k = have_tapes tapes ts h k
    has_tapes tapes (Star t) h k = has_tapes tapes t h k
    has_tapes tapes (Weight w t) h k = has_tapes tapes t h k
    has_tapes tapes (Both t u) h k = (has_tapes tapes t h.0 k.0, has_tapes tapes u h.1 k.1)
    has_tapes tapes (Shuffle t u) h k = (h.0, has_tapes tapes t h.1 k.0, has_tapes tapes u h.2 k.1)

    have_tapes : (tapes : ℕ) (ts : Terms V) → AreOnTapes tapes ts → HaveFullLabels ts → HaveTapes tapes ts
    have_tapes tapes NoTerms h k = tt
    have_tapes tapes (MoreTerms t ts) h k = (has_tapes tapes t h.0 k.0, have_tapes tapes ts h.1 k.1)
