-- The limits of requests are in their range.
use Rattle.std.proofs.Common.{◌≡◌, ◌≤◌, ◌&&◌, ℕ, Bool, true, false, List, [], ◌∷◌, Option, None, Some, refl, subst}
use Rattle.std.specs.Prelude.{if◌then◌else◌, nat_le, option_and_then, option_map}
use Rattle.std.proofs.lemmas.Bool.{leb-true}
use Rattle.vc_num.specs.Decimals.{is_numeral, number_of_digits}
use Rattle.vc_command.specs.Lines.{Line, Text, line_of}
use Rattle.vc_command.specs.Requests.{Asked, HasLimit, IsLimit, command_of, command_request, expression_request, fixed_request, generate, limit_of, limited_request, line_request, number_within, order_of, request_of, words_request}
use Rattle.vc_command.specs.declared.command.Command.{Command}
use Rattle.vc_command.specs.declared.command.Command.TheVariants as command
use Rattle.vc_command.specs.declared.command.Fixed.{Fixed}
use Rattle.vc_command.specs.declared.command.Fixed.TheVariants as fixed
use Rattle.vc_command.specs.declared.command.Limited.{Limited}
use Rattle.vc_command.specs.declared.command.Limited.TheVariants as limited

-- a request, where there is one, has its limit in range
abbrev Limits : Option Asked → Type 0
Limits None = Unit {0}
Limits (Some request) = HasLimit request

-- what is made of a value, where there is one
then_limit : {X : Type 0} (f : X → Option Asked) (o : Option X) → ((x : X) → o ≡ Some x → Limits (f x)) → Limits (option_and_then f o)
then_limit f None h = tt
then_limit f (Some x) h = h x refl

mapped : (o : Option ℕ) → Limits (option_map generate o)
mapped None = tt
mapped (Some n) = tt

-- a number that is read is in range
in_range : (a b c : Bool) (m n : ℕ) → (b ≡ true → 1 ≤ m) → (c ≡ true → m ≤ 1000000) → (if a && (b && c) then Some m else None) ≡ Some n → IsLimit n
in_range true true true m n f g e = subst IsLimit (same m n e) (f refl, g refl)
  where
    same : (k l : ℕ) → Some k ≡ Some l → k ≡ l
    same k l e = cc e
in_range true true false m n f g e = absurd (cc e)
in_range true false c m n f g e = absurd (cc e)
in_range false b c m n f g e = absurd (cc e)

limit_read : (text : Text) (n : ℕ) → limit_of text ≡ Some n → IsLimit n
limit_read text n e =
    let m = number_of_digits text in
    in_range (is_numeral text) (nat_le 1 m) (nat_le m 1000000) m n (leb-true 1 m) (leb-true m 1000000) e

fixed_limit : (c : Fixed) (words : List Text) → Limits (fixed_request c words)
fixed_limit fixed.Context [] = tt
fixed_limit fixed.Context (a ∷ []) = tt
fixed_limit fixed.Context (a ∷ b ∷ words) = tt
fixed_limit fixed.Expr [] = tt
fixed_limit fixed.Expr (a ∷ []) = tt
fixed_limit fixed.Expr (a ∷ b ∷ []) = tt
fixed_limit fixed.Expr (a ∷ b ∷ c ∷ words) = tt
fixed_limit fixed.Cat [] = tt
fixed_limit fixed.Cat (a ∷ []) = tt
fixed_limit fixed.Cat (a ∷ b ∷ words) = tt
fixed_limit fixed.Eval [] = tt
fixed_limit fixed.Eval (a ∷ []) = tt
fixed_limit fixed.Eval (a ∷ b ∷ []) = tt
fixed_limit fixed.Eval (a ∷ b ∷ c ∷ []) = tt
fixed_limit fixed.Eval (a ∷ b ∷ c ∷ d ∷ words) = tt
fixed_limit fixed.Proper [] = tt
fixed_limit fixed.Proper (a ∷ []) = tt
fixed_limit fixed.Proper (a ∷ b ∷ words) = tt
fixed_limit fixed.Trim [] = tt
fixed_limit fixed.Trim (a ∷ []) = tt
fixed_limit fixed.Trim (a ∷ b ∷ words) = tt
fixed_limit fixed.Quotient [] = tt
fixed_limit fixed.Quotient (a ∷ []) = tt
fixed_limit fixed.Quotient (a ∷ b ∷ words) = tt
fixed_limit fixed.Reduce [] = tt
fixed_limit fixed.Reduce (a ∷ []) = tt
fixed_limit fixed.Reduce (a ∷ b ∷ words) = tt
fixed_limit fixed.Generate [] = tt
fixed_limit fixed.Generate (a ∷ []) = mapped (number_within 1 1000 a)
fixed_limit fixed.Generate (a ∷ b ∷ words) = tt

limited_limit : (c : Limited) (words : List Text) (n : ℕ) → IsLimit n → Limits (limited_request c words n)
limited_limit limited.Standard [] n l = tt
limited_limit limited.Standard (a ∷ []) n l = tt
limited_limit limited.Standard (a ∷ b ∷ []) n l = l
limited_limit limited.Standard (a ∷ b ∷ c ∷ words) n l = tt
limited_limit limited.Derived [] n l = tt
limited_limit limited.Derived (a ∷ []) n l = tt
limited_limit limited.Derived (a ∷ b ∷ []) n l = l
limited_limit limited.Derived (a ∷ b ∷ c ∷ words) n l = tt
limited_limit limited.Conjunction [] n l = tt
limited_limit limited.Conjunction (a ∷ []) n l = tt
limited_limit limited.Conjunction (a ∷ b ∷ []) n l = l
limited_limit limited.Conjunction (a ∷ b ∷ c ∷ words) n l = tt
limited_limit limited.Shuffle [] n l = tt
limited_limit limited.Shuffle (a ∷ []) n l = tt
limited_limit limited.Shuffle (a ∷ b ∷ []) n l = l
limited_limit limited.Shuffle (a ∷ b ∷ c ∷ words) n l = tt
limited_limit limited.Compose [] n l = tt
limited_limit limited.Compose (a ∷ []) n l = tt
limited_limit limited.Compose (a ∷ b ∷ []) n l = l
limited_limit limited.Compose (a ∷ b ∷ c ∷ words) n l = tt
limited_limit limited.Determinize [] n l = tt
limited_limit limited.Determinize (a ∷ []) n l = l
limited_limit limited.Determinize (a ∷ b ∷ words) n l = tt

expression_limit : (words : List Text) (order : Option (List ℕ)) → Limits (expression_request words order)
expression_limit [] order = tt
expression_limit (a ∷ []) order = tt
expression_limit (a ∷ b ∷ words) order = tt

command_limit : (c : Command) (words limits orders : List Text) → Limits (command_request c words limits orders)
command_limit (command.Fixed c) words [] [] = fixed_limit c words
command_limit (command.Fixed c) words [] (o ∷ orders) = tt
command_limit (command.Fixed c) words (l ∷ limits) orders = tt
command_limit (command.Limited c) words [] [] = limited_limit c words 100000 (leb-true 1 100000 refl, leb-true 100000 1000000 refl)
command_limit (command.Limited c) words [] (o ∷ orders) = tt
command_limit (command.Limited c) words (l ∷ []) [] = then_limit (limited_request c words) (limit_of l) (λ n e. limited_limit c words n (limit_read l n e))
command_limit (command.Limited c) words (l ∷ []) (o ∷ orders) = tt
command_limit (command.Limited c) words (l ∷ k ∷ limits) orders = tt
command_limit command.ToExpression words [] [] = expression_limit words None
command_limit command.ToExpression words [] (o ∷ []) = then_limit (λ order. expression_request words (Some order)) (order_of o) (λ order e. expression_limit words (Some order))
command_limit command.ToExpression words [] (o ∷ p ∷ orders) = tt
command_limit command.ToExpression words (l ∷ limits) orders = tt

words_limit : (words limits orders : List Text) → Limits (words_request words limits orders)
words_limit [] limits orders = tt
words_limit (name ∷ words) limits orders = then_limit (λ c. command_request c words limits orders) (command_of name) (λ c e. command_limit c words limits orders)

request_limit : (words : List Text) → Limits (request_of words)
unfolding request_of
request_limit words = then_limit line_request (line_of words) (λ line e. words_limit line.plain line.limits line.orders)

pub limited_requests : (words : List Text) (request : Asked) → request_of words ≡ Some request → HasLimit request
limited_requests words request e = subst Limits e (request_limit words)
