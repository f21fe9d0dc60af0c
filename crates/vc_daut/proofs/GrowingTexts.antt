-- Texts that grow step by step.
use Rattle.std.proofs.Common.{◌≡◌, ℕ, ◌≤◌, List, ◌++◌, length, ap, arith, length-drop, drop}
use Rattle.vc_text.specs.Fronts.{chain}

pub four : (s t u v w a b c d : List ℕ) → t ≡ s ++ a → u ≡ t ++ b → v ≡ u ++ c → w ≡ v ++ d → w ≡ s ++ (a ++ (b ++ (c ++ d)))
four s t u v w a b c d g h i j = chain s t w a (b ++ (c ++ d)) g (chain t u w b (c ++ d) h (chain u v w c d i j))

pub six : (s t u v w x y a b c d e f : List ℕ) → t ≡ s ++ a → u ≡ t ++ b → v ≡ u ++ c → w ≡ v ++ d → x ≡ w ++ e → y ≡ x ++ f → y ≡ s ++ (a ++ (b ++ (c ++ (d ++ (e ++ f)))))
six s t u v w x y a b c d e f g h i j k l =
    chain s t y a (b ++ (c ++ (d ++ (e ++ f)))) g (chain t u y b (c ++ (d ++ (e ++ f))) h (chain u v y c (d ++ (e ++ f)) i (chain v w y d (e ++ f) j (chain w x y e f k l))))

pub five : (s t u v w x a b c d e : List ℕ) → t ≡ s ++ a → u ≡ t ++ b → v ≡ u ++ c → w ≡ v ++ d → x ≡ w ++ e → x ≡ s ++ (a ++ (b ++ (c ++ (d ++ e))))
five s t u v w x a b c d e g h i j k = chain s t x a (b ++ (c ++ (d ++ e))) g (chain t u x b (c ++ (d ++ e)) h (chain u v x c (d ++ e) i (chain v w x d e j k)))

pub short_tail : {X : Type 0} (xs ys left : List X) (k : ℕ) → left ≡ drop k xs → length xs ≤ length ys → length left ≤ length ys
short_tail xs ys left k e l = omega (arith, ap length e, length-drop k xs, l)
