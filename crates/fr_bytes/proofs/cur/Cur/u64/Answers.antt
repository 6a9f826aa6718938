use Rattle.std.proofs.Common.{rules, ◌++◌, ap, sym, ◌∙◌, ℕ, ◌<◌, get_or}
use Rattle.std.proofs.lemmas.Nat.{be_bytes_8}
use Rattle.fr_bytes.proofs.cur.Cur.u64.Goals as goal

pub returns-clause-read : goal.returns-clause-read
returns-clause-read c =
    let bytes = c.in_ok-taken.taken.now in
    let small : (i : ℕ) → get_or bytes i 0 < 256 = search rules in
    c.in_ok-taken.ensures.read.1 ∙ ap (λ b. b ++ c.take.new.self) (sym (be_bytes_8 bytes _ c.in_ok-taken.ensures.read.0 small c.from_be_bytes.ensures))
