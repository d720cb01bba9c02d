use Rattle.std.proofs.Common.{sym, ◌∙◌}
use Rattle.std.proofs.lemmas.Bool.{both_ways}
use Rattle.nets.proofs.Lattices.{sound_from_fits, fits_from_sound}
use Rattle.nets.proofs.lattice.LatticeNet.new.Goals as goal

pub returns-then-lattice_fits-clause-sound : goal.returns-then-lattice_fits-clause-sound
returns-then-lattice_fits-clause-sound c _ = sound_from_fits c.args.rows c.args.columns c.args.fees c.args.loss (sym c.lattice_fits.ensures ∙ c.if-lattice_fits.true)

pub returns-else-lattice_fits-clause-complete : goal.returns-else-lattice_fits-clause-complete
returns-else-lattice_fits-clause-complete c s =
    absurd (both_ways _ (sym c.lattice_fits.ensures ∙ c.if-lattice_fits.false) (fits_from_sound c.args.rows c.args.columns c.args.fees c.args.loss s))
