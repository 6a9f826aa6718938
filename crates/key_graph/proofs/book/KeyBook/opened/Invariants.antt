use Rattle.std.proofs.Common.{◌≡◌, ℕ, take}
use Rattle.key_graph.specs.NodeKeys.{key_in}
use Rattle.key_graph.specs.KeyBook.{opened_all}
use Rattle.key_graph.specs.Held.{book_of}
use Rattle.key_graph.proofs.book.KeyBook.opened.Given as goal

abbrev pub invariant-loop-wrap : goal.invariant-loop-wrap
invariant-loop-wrap l = (x : ℕ) → key_in x l.fresh.items ≡ opened_all l.self.depth l.self.leaf l.slot l.gen_ (book_of l.self).keys (take l.wrap-index l.wraps) x l.gen_
