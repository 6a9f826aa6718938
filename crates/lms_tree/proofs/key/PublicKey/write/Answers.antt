use Rattle.std.proofs.Common.{◌≡◌, ◌+◌, ◌++◌, length, take, Some, sym, ap, ◌∙◌, arith}
use Rattle.lms_ots.specs.Digits.{u32str}
use Rattle.lms_tree.specs.Valid.{Key, key_at, key_bytes}
use Rattle.lms_tree.proofs.KeyStrings.{key_at-key_bytes}
use Rattle.lms_tree.proofs.Strings.{key_written}
use Rattle.lms_tree.proofs.key.PublicKey.write.Goals as goal

pub returns-clause-bytes : goal.returns-clause-bytes
unfolding u32str
returns-clause-bytes c =
    let inside = c.self.inside in
    let key : Key = record { pair = inside.pair; id = inside.id; root = inside.root } in
    let lms : c.to_be_bytes.result ≡ u32str inside.pair.lms.code = c.to_be_bytes.ensures in
    let ots : c.to_be_bytes-2.result ≡ u32str inside.pair.ots.code = c.to_be_bytes-2.ensures in
    let one : take 4 c.write_at.new.out ≡ u32str inside.pair.lms.code = rw lms at c.write_at.ensures.through in
    let two : take 8 c.write_at-2.new.out ≡ take 4 c.write_at.new.out ++ u32str inside.pair.ots.code = rw ots at c.write_at-2.ensures.through in
    let third : 8 + length inside.id ≡ 24 = omega arith in
    let fourth : 24 + length inside.root ≡ 56 = omega arith in
    let three : take 24 c.write_at-3.new.out ≡ take 8 c.write_at-2.new.out ++ inside.id = rw third at c.write_at-3.ensures.through in
    let four : take 56 c.write_at-4.new.out ≡ take 24 c.write_at-3.new.out ++ inside.root = rw fourth at c.write_at-4.ensures.through in
    let whole : c.write_at-4.new.out ≡ key_bytes key =
    key_written key c.write_at.new.out c.write_at-2.new.out c.write_at-3.new.out c.write_at-4.new.out one two three four (omega arith) in
    let seen : key ≡ c.args.self.now = c.self.view_is in
    whole ∙ ap key_bytes seen

pub returns-clause-read : goal.returns-clause-read
returns-clause-read c =
    let inside = c.self.inside in
    let key : Key = record { pair = inside.pair; id = inside.id; root = inside.root } in
    let seen : key ≡ c.args.self.now = c.self.view_is in
    let long : length inside.id ≡ 16 = omega arith in
    let long' : length inside.root ≡ 32 = omega arith in
    ap key_at (returns-clause-bytes c ∙ ap key_bytes (sym seen)) ∙ key_at-key_bytes key c.self.invariant long long' ∙ ap (λ (k : Key). Some k) seen
