use Rattle.era_rows.proofs.Moves.{pinned_owned}
use Rattle.era_rows.proofs.Reading.{pinned_words_stand}
use Rattle.era_rows.proofs.laws.pinned_versions_stand.Goals as goal

pub returns : goal.returns
returns g c key ws vs kept i j k at mine = (
  pinned_words_stand g.L.Law.caller g.L.Law.stamp g.L.Law.accepted g.L.Law.lawful g.L.Law.stands g.L.Law.right key ws vs kept i j k at mine,
  pinned_owned g.L.Law.caller g.L.Law.stamp g.L.Law.accepted g.L.Law.lawful g.L.Law.stands g.L.Law.right key ws vs kept i j k at mine,
)
