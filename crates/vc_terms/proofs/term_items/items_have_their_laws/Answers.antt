use Rattle.vc_terms.specs.Same.{same_term}
use Rattle.vc_terms.proofs.term_items.items_have_their_laws.Goals as goal

pub returns : goal.returns
returns g c R L equal Q =
    record {
      joined = c.items_have_their_sums.ensures.append R L;
      multiplied = c.items_have_their_sums.ensures.scaled R L;
      led = c.items_have_their_sums.ensures.mapped R L;
      unless_zero = c.items_have_their_sums.ensures.unless_zero R L equal Q;
      gathered = c.items_have_their_sums.ensures.collected R L equal Q (same_term equal) (c.equal_trees_are_told.ensures equal Q);
      sources = c.items_have_their_sums.ensures.sources R L equal (same_term equal) (c.equal_trees_are_told.ensures equal Q);
      neat = c.items_have_their_sums.ensures.neat R L equal Q (same_term equal) (c.equal_trees_are_told.ensures equal Q);
      zero = c.operations_are_given_by_items.ensures.zero R L;
      one = c.operations_are_given_by_items.ensures.one R L;
      multiple = c.operations_are_given_by_items.ensures.multiple R L;
      product = c.operations_are_given_by_items.ensures.product R L;
      star = c.operations_are_given_by_items.ensures.star R L;
      both = c.operations_are_given_by_items.ensures.both R L;
      shuffle = c.operations_are_given_by_items.ensures.shuffle R L;
      atoms = c.atoms_read_labels.ensures R L;
    }
