use Rattle.std.proofs.Common.{◌≡◌, ◌++◌, drop}
use Rattle.std.specs.Option.{option_map}
use Rattle.vc_command.specs.Requests.{states_of}
use Rattle.vc_command.specs.Views.{texts}
use Rattle.vc_command.proofs.number.order_of.Given as goal

abbrev pub invariant-loop-part : goal.invariant-loop-part
invariant-loop-part l = states_of (texts l.part-items) ≡ option_map (λ ns. l.order.items ++ ns) (states_of (texts (drop l.part-index l.part-items)))
