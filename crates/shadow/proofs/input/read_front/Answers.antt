use Rattle.shadow.proofs.Reading.{copied_of}
use Rattle.shadow.proofs.input.read_front.Goals as goal

pub returns : goal.returns
returns g c =
    copied_of g.R.Read.remaining c.take.result.limit 30841 c.take.result.inner c.args.reader c.new-front.result.items c.copy.new.writer.items
    c.take.ensures.limit c.take.ensures.inner c.new-front.ensures c.in_ok-copy.ensures.bytes
