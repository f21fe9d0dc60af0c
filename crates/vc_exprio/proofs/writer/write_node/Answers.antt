use Rattle.std.proofs.Common.{rules, ◌++◌, ◌∷◌, [], string_bytes, ap, refl, ◌∙◌, append_assoc}
use Rattle.vc_expr.specs.Names.{tree_of}
use Rattle.vc_exprio.specs.Writing.{left, label_text}
use Rattle.vc_text.specs.Fronts.{front_same, front_of}
use Rattle.vc_exprio.proofs.PendingTexts.{on_ok, star_put, weight_put, both_put, shuffle_put, sum_put, product_put, atom_put}
use Rattle.vc_exprio.proofs.writer.write_node.Goals as goal

pub returns-in-Star : goal.returns-in-Star
returns-in-Star g c =
    let p = star_put g.S.Semiring.canonical c.args.exprs.now (g.L.LabelSet.sets c.args.labels.now) (tree_of c.args.exprs.now c.args.e) c.in-Star.operand c.args.pending.now.items c.push-in-Star.new.self.items c.push-in-Star-2.new.self.items c.in-Star.ensures.0 c.in-Star.ensures.1 c.requires.labels c.requires.pending c.in_ok-push-in-Star.ensures.items c.in_ok-push-in-Star-2.ensures.items in
    record {
      text = ap (λ x. string_bytes c.args.into.now ++ x) p.text;
      pending = p.pending;
      work = p.work;
      front = front_same (string_bytes c.args.into.now) (string_bytes c.args.into.now) refl;
    }

pub returns-in-Both : goal.returns-in-Both
returns-in-Both g c =
    let p = both_put g.S.Semiring.canonical c.args.exprs.now (g.L.LabelSet.sets c.args.labels.now) (tree_of c.args.exprs.now c.args.e) c.in-Both.first c.in-Both.second c.args.pending.now.items c.push-in-Both.new.self.items c.push-in-Both-2.new.self.items c.push-in-Both-3.new.self.items c.in-Both.ensures.0 c.in-Both.ensures.1 c.in-Both.ensures.2 c.requires.labels c.requires.pending c.in_ok-push-in-Both.ensures.items c.in_ok-push-in-Both-2.ensures.items c.in_ok-push-in-Both-3.ensures.items in
    record {
      text = ap (λ x. string_bytes c.args.into.now ++ x) p.text;
      pending = p.pending;
      work = p.work;
      front = front_same (string_bytes c.args.into.now) (string_bytes c.args.into.now) refl;
    }

pub returns-in-Shuffle : goal.returns-in-Shuffle
returns-in-Shuffle g c =
    let p = shuffle_put g.S.Semiring.canonical c.args.exprs.now (g.L.LabelSet.sets c.args.labels.now) (tree_of c.args.exprs.now c.args.e) c.in-Shuffle.first c.in-Shuffle.second c.args.pending.now.items c.push-in-Shuffle.new.self.items c.push-in-Shuffle-2.new.self.items c.push-in-Shuffle-3.new.self.items c.in-Shuffle.ensures.0 c.in-Shuffle.ensures.1 c.in-Shuffle.ensures.2 c.requires.labels c.requires.pending c.in_ok-push-in-Shuffle.ensures.items c.in_ok-push-in-Shuffle-2.ensures.items c.in_ok-push-in-Shuffle-3.ensures.items in
    record {
      text = ap (λ x. string_bytes c.args.into.now ++ x) p.text;
      pending = p.pending;
      work = p.work;
      front = front_same (string_bytes c.args.into.now) (string_bytes c.args.into.now) refl;
    }

pub returns-in-Sum : goal.returns-in-Sum
returns-in-Sum g c =
    let p = sum_put g.S.Semiring.canonical c.args.exprs.now (g.L.LabelSet.sets c.args.labels.now) (tree_of c.args.exprs.now c.args.e) c.in-Sum.members.now c.in-Some.first c.in-Some.others c.args.pending.now.items c.push.new.self.items c.push-in-Sum.new.self.items c.in-Sum.ensures.0 c.in-Sum.ensures.1 (search rules) c.requires.labels c.requires.pending c.in_ok-push-in-Sum.ensures.items c.in_ok-push-in-Sum-2.ensures.items in
    record {
      text = ap (λ x. string_bytes c.args.into.now ++ x) p.text;
      pending = p.pending;
      work = p.work;
      front = front_same (string_bytes c.args.into.now) (string_bytes c.args.into.now) refl;
    }

pub returns-in-Product : goal.returns-in-Product
returns-in-Product g c =
    let p = product_put g.S.Semiring.canonical c.args.exprs.now (g.L.LabelSet.sets c.args.labels.now) (tree_of c.args.exprs.now c.args.e) c.in-Product.factors c.args.pending.now.items c.push-in-Product.new.self.items c.in-Product.ensures.0 c.in-Product.ensures.1 c.requires.labels c.requires.pending c.in_ok-push-in-Product.ensures.items in
    record {
      text = ap (λ x. string_bytes c.args.into.now ++ x) p.text;
      pending = p.pending;
      work = p.work;
      front = front_same (string_bytes c.args.into.now) (string_bytes c.args.into.now) refl;
    }

pub returns-in-Weight : goal.returns-in-Weight
returns-in-Weight g c =
    let p = weight_put g.S.Semiring.canonical c.args.exprs.now (g.L.LabelSet.sets c.args.labels.now) (tree_of c.args.exprs.now c.args.e) c.in-Weight.weight c.in-Weight.operand c.args.pending.now.items c.push-in-Weight.new.self.items c.in-Weight.ensures.0 c.in-Weight.ensures.1 c.requires.labels c.requires.pending c.in_ok-push-in-Weight.ensures.items in
    let old = string_bytes c.args.into.now in
    let now = string_bytes c.push_weight.new.into in
    let text = 60 ∷ (g.S.Semiring.canonical c.in-Weight.weight ++ 62 ∷ []) in
    let items = left g.S.Semiring.canonical c.args.exprs.now c.push-in-Weight.new.self.items in
    record {
      text = ap (λ b. b ++ items) c.in_ok-push_weight-in-Weight.ensures.ok ∙ append_assoc old text items ∙ ap (λ x. old ++ x) p.text;
      pending = p.pending;
      work = p.work;
      front = front_of old now text c.in_ok-push_weight-in-Weight.ensures.ok;
    }

pub returns-in-Atom-clause-text : goal.returns-in-Atom-clause-text
returns-in-Atom-clause-text g c =
    let p = atom_put g.S.Semiring.canonical c.args.exprs.now (g.L.LabelSet.sets c.args.labels.now) (tree_of c.args.exprs.now c.args.e) (g.L.LabelSet.parts c.in-Atom.label.now) c.args.pending.now.items c.in-Atom.ensures c.requires.pending in
    let old = string_bytes c.args.into.now in
    let text = label_text (g.L.LabelSet.parts c.in-Atom.label.now) in
    let items = left g.S.Semiring.canonical c.args.exprs.now c.args.pending.now.items in
    on_ok c.push_label.result _ _ (λ e. ap (λ b. b ++ items) e ∙ append_assoc old text items ∙ ap (λ x. old ++ x) p.text) c.push_label.ensures.ok
