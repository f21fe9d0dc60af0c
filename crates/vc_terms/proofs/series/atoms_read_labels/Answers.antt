use Rattle.vc_terms.proofs.Atoms.{atom_product}
use Rattle.vc_terms.proofs.series.atoms_read_labels.Goals as goal

pub returns : goal.returns
returns g c R L = atom_product L
