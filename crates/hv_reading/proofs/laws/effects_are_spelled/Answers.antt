use Rattle.hv_reading.proofs.PartSpellings.{literal_table}
use Rattle.hv_reading.proofs.EffectSpellings.{effect_table}
use Rattle.hv_reading.proofs.laws.effects_are_spelled.Goals as goal

pub returns-clause-literals : goal.returns-clause-literals
returns-clause-literals c = literal_table

pub returns-clause-effects : goal.returns-clause-effects
returns-clause-effects c = effect_table
