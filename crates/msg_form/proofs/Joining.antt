-- Pieces that are appended one after the other.
use Rattle.std.proofs.Common.{◌≡◌, ◌++◌, append_assoc}
use Rattle.fr_bytes.specs.Bytes.{Text}

pub joined3 : (out a b c : Text) → ((out ++ a) ++ b) ++ c ≡ out ++ (a ++ (b ++ c))
joined3 out a b c = simp append_assoc

pub joined4 : (out a b c d : Text) → (((out ++ a) ++ b) ++ c) ++ d ≡ out ++ (a ++ (b ++ (c ++ d)))
joined4 out a b c d = simp append_assoc

pub joined5 : (out a b c d e : Text) → ((((out ++ a) ++ b) ++ c) ++ d) ++ e ≡ out ++ (a ++ (b ++ (c ++ (d ++ e))))
joined5 out a b c d e = simp append_assoc
