use Rattle.std.proofs.Common.{refl}
use Rattle.records.proofs.Series.{comes_apart, come_back}
use Rattle.records.proofs.archive.Records.new.Goals as goal

pub returns : goal.returns
returns c = record { value = refl; apart = comes_apart c.args.archive.now; back = come_back c.args.archive.now }
