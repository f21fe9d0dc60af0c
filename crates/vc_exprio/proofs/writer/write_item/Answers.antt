use Rattle.std.proofs.Common.{rules, ◌≡◌, ◌∷◌, string_bytes}
use Rattle.vc_exprio.specs.declared.writer.Pending.TheVariants.{Members, Factors}
use Rattle.vc_exprio.proofs.PendingTexts.{on_ok, are_pushed, names_split, members_step, members_work, factors_step, factors_work}
use Rattle.vc_exprio.proofs.writer.write_item.Goals as goal

pub write_node-requires-clause-pending : goal.write_node-requires-clause-pending
write_node-requires-clause-pending g c =
    let split : c.in-Members.members.now ≡ c.in-Some.first ∷ c.in-Some.others.now = search rules in
    let all = rw c.in-Members.is at c.requires.item in
    let n = names_split g.S.Semiring.canonical c.args.exprs.now (g.L.LabelSet.sets c.args.labels.now) c.in-Members.members.now c.in-Some.first c.in-Some.others.now split all.0 all.1 in
    are_pushed g.S.Semiring.canonical c.args.exprs.now (g.L.LabelSet.sets c.args.labels.now) c.args.pending.now.items c.push.new.self.items (Members c.in-Some.others) c.in_ok-push-in-Members.ensures.items c.requires.pending (n.others_have, n.others_over)

pub returns-in-Members-clause-text : goal.returns-in-Members-clause-text
returns-in-Members-clause-text g c =
    let split : c.in-Members.members.now ≡ c.in-Some.first ∷ c.in-Some.others.now = search rules in
    rw c.in-Members.is
    (on_ok c.write_node.result _ _
    (members_step g.S.Semiring.canonical c.args.exprs.now c.in-Members.members.now c.in-Some.first c.in-Some.others (string_bytes c.args.into.now) (string_bytes c.push_byte-in-Members.new.into) (string_bytes c.write_node.new.into)
    c.args.pending.now.items c.push.new.self.items c.write_node.new.pending.items split c.in_ok-push_byte-in-Members.ensures.ok c.in_ok-push-in-Members.ensures.items)
    c.write_node.ensures.text)

pub returns-in-Members-clause-work : goal.returns-in-Members-clause-work
returns-in-Members-clause-work g c =
    let split : c.in-Members.members.now ≡ c.in-Some.first ∷ c.in-Some.others.now = search rules in
    rw c.in-Members.is
    (on_ok c.write_node.result _ _ (members_work g.S.Semiring.canonical c.args.exprs.now c.in-Members.members.now c.in-Some.first c.in-Some.others c.args.pending.now.items c.push.new.self.items c.write_node.new.pending.items split c.in_ok-push-in-Members.ensures.items) c.write_node.ensures.work)

pub write_operand-requires-in-Factors-clause-pending : goal.write_operand-requires-in-Factors-clause-pending
write_operand-requires-in-Factors-clause-pending g c =
    let split : c.in-Factors.factors.now ≡ c.in-Some-first_of.first ∷ c.in-Some-first_of.others.now = search rules in
    let all = rw c.in-Factors.is at c.requires.item in
    let n = names_split g.S.Semiring.canonical c.args.exprs.now (g.L.LabelSet.sets c.args.labels.now) c.in-Factors.factors.now c.in-Some-first_of.first c.in-Some-first_of.others.now split all.0 all.1 in
    are_pushed g.S.Semiring.canonical c.args.exprs.now (g.L.LabelSet.sets c.args.labels.now) c.args.pending.now.items c.push-in-Factors.new.self.items (Factors c.in-Some-first_of.others) c.in_ok-push-in-Factors.ensures.items c.requires.pending (n.others_have, n.others_over)

pub returns-in-Factors-clause-text : goal.returns-in-Factors-clause-text
returns-in-Factors-clause-text g c =
    let split : c.in-Factors.factors.now ≡ c.in-Some-first_of.first ∷ c.in-Some-first_of.others.now = search rules in
    rw c.in-Factors.is
    (on_ok c.write_operand-in-Factors.result _ _
    (factors_step g.S.Semiring.canonical c.args.exprs.now c.in-Factors.factors.now c.in-Some-first_of.first c.in-Some-first_of.others (string_bytes c.args.into.now) (string_bytes c.write_operand-in-Factors.new.into)
    c.args.pending.now.items c.push-in-Factors.new.self.items c.write_operand-in-Factors.new.pending.items split c.in_ok-push-in-Factors.ensures.items)
    c.write_operand-in-Factors.ensures.text)

pub returns-in-Factors-clause-work : goal.returns-in-Factors-clause-work
returns-in-Factors-clause-work g c =
    let split : c.in-Factors.factors.now ≡ c.in-Some-first_of.first ∷ c.in-Some-first_of.others.now = search rules in
    rw c.in-Factors.is
    (on_ok c.write_operand-in-Factors.result _ _ (factors_work g.S.Semiring.canonical c.args.exprs.now c.in-Factors.factors.now c.in-Some-first_of.first c.in-Some-first_of.others c.args.pending.now.items c.push-in-Factors.new.self.items c.write_operand-in-Factors.new.pending.items split c.in_ok-push-in-Factors.ensures.items)
    c.write_operand-in-Factors.ensures.work)
