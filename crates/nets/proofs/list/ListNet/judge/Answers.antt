use Rattle.std.proofs.Common.{sym, ◌∙◌}
use Rattle.std.proofs.lemmas.Bool.{both_ways}
use Rattle.nets.proofs.Records.{sound_from_fits, fits_from_sound, listed_sound}
use Rattle.nets.proofs.list.ListNet.judge.Goals as goal

pub returns-then-net_fits-clause-sound : goal.returns-then-net_fits-clause-sound
returns-then-net_fits-clause-sound c _ = sound_from_fits c.args.stations c.args.records.now (sym c.net_fits.ensures ∙ c.if-net_fits.true)

pub returns-then-net_fits-clause-meaning : goal.returns-then-net_fits-clause-meaning
returns-then-net_fits-clause-meaning c _ =
    listed_sound c.args.stations c.args.records.now (sound_from_fits c.args.stations c.args.records.now (sym c.net_fits.ensures ∙ c.if-net_fits.true))

pub returns-else-net_fits-clause-complete : goal.returns-else-net_fits-clause-complete
returns-else-net_fits-clause-complete c s = absurd (both_ways _ (sym c.net_fits.ensures ∙ c.if-net_fits.false) (fits_from_sound c.args.stations c.args.records.now s))
