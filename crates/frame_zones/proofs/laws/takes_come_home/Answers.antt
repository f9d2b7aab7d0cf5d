use Rattle.frame_zones.proofs.Staying.{comes_home}
use Rattle.frame_zones.proofs.laws.takes_come_home.Goals as goal

pub returns : goal.returns
returns c = comes_home
