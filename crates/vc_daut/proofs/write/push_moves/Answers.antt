use Rattle.std.proofs.Common.{string_bytes}
use Rattle.vc_text.specs.Fronts.{front_of, front_twice}
use Rattle.vc_daut.proofs.GrowingTexts.{five, six}
use Rattle.vc_daut.proofs.write.push_moves.Goals as goal

pub returns-clause-ok : goal.returns-clause-ok
returns-clause-ok g c =
    six (string_bytes c.args.into.now) (string_bytes c.push_number.new.into) (string_bytes c.push_text.new.into) (string_bytes c.push_number-2.new.into) (string_bytes c.push_text-2.new.into)
    (string_bytes c.push_entries.new.into) (string_bytes c.push_text-3.new.into) _ _ _ _ _ _
    c.in_ok-push_number.ensures.ok c.in_ok-push_text.ensures.ok c.in_ok-push_number-2.ensures.ok c.in_ok-push_text-2.ensures.ok c.in_ok-push_entries.ensures.ok c.in_ok-push_text-3.ensures.ok

pub returns-clause-front : goal.returns-clause-front
returns-clause-front g c = front_of (string_bytes c.args.into.now) (string_bytes c.push_text-3.new.into) _ (returns-clause-ok g c)

pub returns-in_err-push_text-3-clause-front : goal.returns-in_err-push_text-3-clause-front
returns-in_err-push_text-3-clause-front g c =
    front_twice (string_bytes c.args.into.now) (string_bytes c.push_entries.new.into) (string_bytes c.push_text-3.new.into)
    (front_of (string_bytes c.args.into.now) (string_bytes c.push_entries.new.into) _
    (five (string_bytes c.args.into.now) (string_bytes c.push_number.new.into) (string_bytes c.push_text.new.into) (string_bytes c.push_number-2.new.into) (string_bytes c.push_text-2.new.into)
    (string_bytes c.push_entries.new.into) _ _ _ _ _
    c.in_ok-push_number.ensures.ok c.in_ok-push_text.ensures.ok c.in_ok-push_number-2.ensures.ok c.in_ok-push_text-2.ensures.ok c.in_ok-push_entries.ensures.ok))
    c.push_text-3.ensures.front
