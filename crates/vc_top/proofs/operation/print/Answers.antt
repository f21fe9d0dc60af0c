use Rattle.std.proofs.Common.{subst}
use Rattle.vc_top.specs.Inputs.{IsSoundInput}
use Rattle.vc_top.specs.Views.{input_of}
use Rattle.vc_top.proofs.operation.print.Goals as goal

pub returns-in-B : goal.returns-in-B
returns-in-B c = rw c.in-B.is c.print_over.ensures

pub returns-in-F2 : goal.returns-in-F2
returns-in-F2 c = rw c.in-F2.is c.print_over-in-F2.ensures

pub returns-in-Z : goal.returns-in-Z
returns-in-Z c = rw c.in-Z.is c.print_over-in-Z.ensures

pub returns-in-Q : goal.returns-in-Q
returns-in-Q c = rw c.in-Q.is c.print_over-in-Q.ensures

pub returns-in-Nmin : goal.returns-in-Nmin
returns-in-Nmin c = rw c.in-Nmin.is c.print_over-in-Nmin.ensures

pub print_over-requires-in-F2 : goal.print_over-requires-in-F2
print_over-requires-in-F2 c = subst (λ x. IsSoundInput (input_of x)) c.in-F2.is c.requires

pub print_over-requires-in-Z : goal.print_over-requires-in-Z
print_over-requires-in-Z c = subst (λ x. IsSoundInput (input_of x)) c.in-Z.is c.requires

pub print_over-requires-in-Q : goal.print_over-requires-in-Q
print_over-requires-in-Q c = subst (λ x. IsSoundInput (input_of x)) c.in-Q.is c.requires
