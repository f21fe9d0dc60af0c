use Rattle.std.proofs.Common.{List, ℕ, subst, true}
use Rattle.std.proofs.lemmas.List.{length-set}
use Rattle.vc_closure.proofs.Settling.{one_more_waits}
use Rattle.vc_model.specs.Lists.{In}
use Rattle.vc_closure.proofs.settle.wait.Goals as goal

pub returns-in_err-push_back : goal.returns-in_err-push_back
returns-in_err-push_back c =
    record {
      count = length-set c.args.waiting.now.marks.items c.args.state true;
      inside = λ q i. c.requires.waiting.inside q (subst (λ (qs : List ℕ). In q qs) c.in_err-push_back.ensures.items i);
    }

pub returns : goal.returns
returns c = one_more_waits c.args.waiting.now.queue.items c.push_back.new.self.items c.args.waiting.now.marks.items c.args.state true c.in_ok-push_back.ensures.items c.requires.state c.requires.waiting
