use Rattle.std.proofs.Common.{arith, ◌≡◌, nat_lt, true, string_bytes, ◌∙◌}
use Rattle.vc_expr.specs.Names.{tree_of}
use Rattle.vc_exprio.specs.Writing.{rank, rank_of}
use Rattle.vc_exprio.specs.declared.writer.Pending.TheVariants.{Byte}
use Rattle.vc_exprio.proofs.PendingTexts.{on_ok, are_pushed, is_looser, group_text, group_work}
use Rattle.vc_exprio.proofs.writer.write_operand.Goals as goal

pub write_node-requires-clause-pending : goal.write_node-requires-clause-pending
write_node-requires-clause-pending g c = are_pushed g.S.Semiring.canonical c.args.exprs.now (g.L.LabelSet.sets c.args.labels.now) c.args.pending.now.items c.push.new.self.items (Byte 41) c.in_ok-push.ensures.items c.requires.pending (omega arith)

pub returns-then-rank-clause-text : goal.returns-then-rank-clause-text
returns-then-rank-clause-text g c =
    let t = tree_of c.args.exprs.now c.args.e in
    let looser : nat_lt (rank_of t) (rank c.args.least) ≡ true = is_looser c.rank.result c.rank-2.result (rank_of t) (rank c.args.least) (c.rank.ensures ∙ c.form_of.ensures) c.rank-2.ensures c.if-rank.true in
    on_ok c.write_node.result _ _
    (group_text g.S.Semiring.canonical c.args.exprs.now t (rank c.args.least) (string_bytes c.args.into.now) (string_bytes c.push_byte.new.into) (string_bytes c.write_node.new.into) c.args.pending.now.items c.push.new.self.items c.write_node.new.pending.items
    looser c.in_ok-push_byte.ensures.ok c.in_ok-push.ensures.items)
    c.write_node.ensures.text

pub returns-then-rank-clause-work : goal.returns-then-rank-clause-work
returns-then-rank-clause-work g c =
    on_ok c.write_node.result _ _ (group_work g.S.Semiring.canonical c.args.exprs.now (tree_of c.args.exprs.now c.args.e) c.args.pending.now.items c.push.new.self.items c.write_node.new.pending.items c.in_ok-push.ensures.items) c.write_node.ensures.work
