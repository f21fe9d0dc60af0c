use Rattle.vc_terms.proofs.StarLaws.{star_solves, solved_by_star}
use Rattle.vc_terms.proofs.series.stars_solve_equations.Goals as goal

pub returns-clause-solved : goal.returns-clause-solved
returns-clause-solved g c R L tapes f y h w e = star_solves L f tapes h y w e

pub returns-clause-only : goal.returns-clause-only
returns-clause-only g c R L tapes f y X N h w e = solved_by_star L f tapes N y X h w e
