use Rattle.step_meaning.proofs.FitsBounded.{fits_bounded}
use Rattle.step_meaning.proofs.laws.fits_bounded.Goals as goal

pub returns : goal.returns
returns c = fits_bounded
