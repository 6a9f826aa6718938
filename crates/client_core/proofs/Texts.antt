-- Texts that end with an operation's signature.
use Rattle.std.proofs.Common.{◌≡◌, ◌∙◌, ℕ, zero, suc, ◌+◌, ◌-◌, ◌^◌, ◌<◌, ◌≤◌, ◌∷◌, ◌++◌, length, get_or, replicate, take, ap, sym, arith, append_assoc, length-append, length-drop}
use Rattle.std.proofs.lemmas.List.{length-replicate, take_at}
use Rattle.std.specs.Int.{w32, w64, to_be_bytes}
use Rattle.fr_bytes.specs.Bytes.{Text}
use Rattle.op_types.specs.declared.op.Op.{Op}
use Rattle.op_types.specs.declared.op.Leaf.{Leaf}
use Rattle.op_types.specs.Spelling.{IsLeaf, IsOp, leaf_text, op_text, unsigned_text}
use Rattle.op_types.proofs.LeafTexts.{leaf_text-short, op_behind}
use Rattle.msg_form.specs.declared.message.Request.TheVariants as requests
use Rattle.msg_form.specs.Messages.{request_text}
use Rattle.msg_form.specs.declared.tags.TheConstants.{APPEND_TAG}
use Rattle.signed_ops.specs.Signed.{with_sig}

-- the bytes of a list of the same length in the place of the last
pub ends : (front old new : Text) → length new ≡ length old → take (length (front ++ old) - length new)
    (front ++ old) ++ new ≡ front ++ new
ends front old new e = ap (λ (x : Text). x ++ new) (take_at front old (length (front ++ old) - length new) (omega
    (arith, length-append front old)))

-- the text of a request with an operation of this text
abbrev before-op : ℕ → ℕ → ℕ → Text
before-op wall have n = APPEND_TAG ∷ (to_be_bytes w32 wall ++ (to_be_bytes w64 have ++ to_be_bytes w32 n))

regrouped : (a b c t : Text) → a ++ (b ++ (c ++ t)) ≡ (a ++ (b ++ c)) ++ t
regrouped a b c t = simp append_assoc

request-is : (wall have : ℕ) (text : Text) → request_text (requests.Append wall have text)
    ≡ before-op wall have (length text) ++ text
request-is wall have text = ap (λ (t : Text). APPEND_TAG ∷ t) (regrouped (to_be_bytes w32 wall)
    (to_be_bytes w64 have) (to_be_bytes w32 (length text)) text)

front-of : Op → Text
front-of op = unsigned_text op ++ to_be_bytes w32 (length op.sig)

op-is : (op : Op) → op_text op ≡ front-of op ++ op.sig
unfolding op_text front-of
op-is op = sym (append_assoc (unsigned_text op) (to_be_bytes w32 (length op.sig)) op.sig)

same-front : (op : Op) (sig : Text) → length sig ≡ length op.sig → front-of (with_sig op sig) ≡ front-of op
unfolding front-of unsigned_text
same-front op sig e = ap (λ (n : ℕ). unsigned_text op ++ to_be_bytes w32 n) e

pub op-ends : (op : Op) (sig : Text) → length sig ≡ length op.sig
    → take (length (op_text op) - length sig) (op_text op) ++ sig ≡ op_text (with_sig op sig)
op-ends op sig e =
    ap (λ (t : Text). take (length t - length sig) t ++ sig) (op-is op)
    ∙ (ends (front-of op) op.sig sig e
    ∙ (ap (λ (t : Text). t ++ sig) (sym (same-front op sig e)) ∙ sym (op-is (with_sig op sig))))

length-op : (op : Op) (sig : Text) → length sig ≡ length op.sig → length (op_text (with_sig op sig))
    ≡ length (op_text op)
length-op op sig e =
    ap length (op-is (with_sig op sig)) ∙ (length-append (front-of (with_sig op sig)) sig
    ∙ (ap (λ (t : Text). length t + length sig) (same-front op sig e) ∙ (ap (λ (n : ℕ). length (front-of op) + n) e
    ∙ (sym (length-append (front-of op) op.sig) ∙ ap length (sym (op-is op))))))

-- the text of a request that ends with it
pub request-ends : (wall have : ℕ) (op : Op) (sig : Text) → length sig ≡ length op.sig
    → take (length (request_text (requests.Append wall have (op_text op))) - length sig) (request_text
    (requests.Append wall have (op_text op))) ++ sig
    ≡ request_text (requests.Append wall have (op_text (with_sig op sig)))
request-ends wall have op sig e =
    let p = before-op wall have (length (op_text op)) in
    let split : request_text (requests.Append wall have (op_text op)) ≡ (p ++ front-of op) ++ op.sig =
    request-is wall have (op_text op) ∙ (ap (λ (t : Text). p ++ t) (op-is op)
    ∙ sym (append_assoc p (front-of op) op.sig)) in
    let joined : (p ++ front-of op) ++ sig ≡ request_text (requests.Append wall have (op_text (with_sig op sig))) =
    append_assoc p (front-of op) sig
    ∙ (ap (λ (t : Text). p ++ (t ++ sig)) (sym (same-front op sig e))
    ∙ (ap (λ (t : Text). p ++ t) (sym (op-is (with_sig op sig)))
    ∙ (ap (λ (n : ℕ). before-op wall have n ++ op_text (with_sig op sig)) (sym (length-op op sig e))
    ∙ sym (request-is wall have (op_text (with_sig op sig)))))) in
    ap (λ (t : Text). take (length t - length sig) t ++ sig) split ∙ (ends (p ++ front-of op) op.sig sig e ∙ joined)

-- each is at least as long as the signature
pub op-longer : (op : Op) → length op.sig ≤ length (op_text op)
op-longer op = let e = ap length (op-is op) ∙ length-append (front-of op) op.sig in omega arith

pub request-longer : (wall have : ℕ) (op : Op) → length op.sig ≤ length (request_text (requests.Append wall have
    (op_text op)))
request-longer wall have op =
    let e = ap length (request-is wall have (op_text op)) ∙ length-append (before-op wall have (length
    (op_text op))) (op_text op) in
    let h = op-longer op in omega arith

zeros : (n i : ℕ) → get_or (replicate n 0) i 0 < 256
zeros zero i = omega arith
zeros (suc n) zero = omega arith
zeros (suc n) (suc i) = zeros n i

-- its length is spelled in four bytes
pub op-short : (op : Op) → IsOp op → length (op_text op) < 2 ^ 32
op-short op h =
    let leaf : Leaf = record { after = replicate 32 0; epoch = 0; op = op } in
    let is : IsLeaf leaf = record { after = (length-replicate {A = ℕ} 32 0, zeros 32); epoch = omega arith; op = h } in
    let short = leaf_text-short leaf is in
    let behind = ap length (op_behind leaf is) in
    let part = length-drop 40 (leaf_text leaf) in
    omega arith
