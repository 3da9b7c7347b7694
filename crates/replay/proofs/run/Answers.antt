-- What is written is the front of the table that the response fills.
use Rattle.std.proofs.Common.{arith, subst}
use Rattle.std.proofs.lemmas.Result.{on_ok_weaker}
use Rattle.std.specs.Io.KnownBytes.{Appends}
use Rattle.replay.proofs.RunLaws.{whole, written}
use Rattle.replay.proofs.run.Goals as goal

pub returns : goal.returns
returns g c =
    let r = c.respond-length.ensures.wrote in
    on_ok_weaker c.write_all.result
    (λ w. whole (g.R.Read.remaining c.args.input.now) (g.R.Read.remaining c.read_full.new.input) c.read_full.new.table c.in_ok-count.count
    (Appends (g.W.Write.contents c.args.printed.now) (g.W.Write.contents c.write_all.new.self))
    (omega arith) c.in_ok-count.ensures.within c.in_ok-count.ensures.bytes c.in_ok-count.ensures.end
    (subst (Appends _ _) (written _ _ _ _ r.0 r.1) w))
    c.write_all.ensures.bytes
