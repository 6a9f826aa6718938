use Rattle.std.proofs.Common.{arith, ap, ◌∙◌, length, take, ◌≡◌, drop, min}
use Rattle.fr_edges.proofs.MemoryLemmas.{moves, at_end}
use Rattle.fr_edges.proofs.mem_source.MemSourceSource.read.Goals as goal

pub returns-clause-reads : goal.returns-clause-reads
returns-clause-reads c =
    let bytes = c.args.self.now.bytes.items in
    let taken = c.args.self.now.taken in
    let n = c.give-n.result in
    let piece = c.args.self.now.piece in
    let room = length c.args.buf.now in
    let front : take n c.give-n.new.buf ≡ take n (drop taken bytes) = c.give-n.ensures.front ∙ ap (take n) c.left.ensures in
    let count : n ≡ min (min (length (drop taken bytes)) piece) room = c.give-n.ensures.count ∙ ap (λ l. min (min (length l) piece) room) c.left.ensures in
    record {
      bound = omega (arith, c.give-n.ensures.room, count);
      moves = moves bytes c.give-n.new.buf taken n front;
      ends = λ none some. at_end bytes taken n piece room count c.args.self.now.positive none (omega (arith, c.give-n.ensures.room));
      calm = ap (λ s. s.faults) c.count_call.ensures;
      never_falls = omega (arith, ap (λ s. s.faults) c.count_call.ensures);
      cause = tt;
    }
