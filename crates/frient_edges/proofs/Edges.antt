-- Reading a source to its end and writing a text to a sink, piece after piece.
use Rattle.std.proofs.Common.{◌≡◌, ◌∙◌, ℕ, ◌+◌, ◌<◌, ◌≤◌, List, [], ◌++◌, length, take, drop, Option, Some, None, Ok, Err, refl, sym, ap, append_assoc, arith, inl, inr}
use Rattle.std.proofs.lemmas.List.{append-nil, take-append-drop, length-append, take_at}
use Rattle.fr_edges.specs.declared.source.Failed.{Failed}
use Rattle.fr_edges.specs.Faults.{Rose}
use Rattle.fr_edges.specs.Source.{SourceView, with_front}
use Rattle.fr_edges.specs.Sink.{SinkView, with_more, Writes}
use Rattle.frient_edges.specs.declared.input.TheConstants.{SCRIPT_MAX}
use Rattle.frient_edges.specs.Input.{Fed, Piece}
use Rattle.frient_edges.specs.Output.{Spoke}

-- ---- reading

-- these bytes were read so far
pub record HasRead (before now : SourceView) (bytes : List ℕ) : Type 0 where
  pub moved : before.left ≡ with_front bytes now.left
  pub bound : length bytes ≤ SCRIPT_MAX + 1
  pub calm : now.faults ≡ before.faults

nothing_read : (left : Option (List ℕ)) → left ≡ with_front [] left
nothing_read None = refl
nothing_read (Some rest) = refl

pub begins : (before : SourceView) → HasRead before before []
begins before = record { moved = nothing_read before.left; bound = omega arith; calm = refl }

fronts : (xs ys : List ℕ) (left : Option (List ℕ)) → with_front xs (with_front ys left) ≡ with_front (xs ++ ys) left
fronts xs ys None = refl
fronts xs ys (Some rest) = ap (λ (zs : List ℕ). Some zs) (sym (append_assoc xs ys rest))

pub goes_on : (before now next : SourceView) (bytes bytes' : List ℕ) (n : ℕ) → HasRead before now bytes → Piece now next bytes bytes' n → length bytes + n ≤ SCRIPT_MAX + 1 → HasRead before next bytes'
goes_on before now next bytes bytes' n h p room = record {
  moved = h.moved ∙ ap (with_front bytes) p.moved ∙ fronts bytes p.bytes next.left ∙ ap (λ (zs : List ℕ). with_front zs next.left) (sym p.appended);
  bound = omega (arith, ap length p.appended, length-append bytes p.bytes, p.len);
  calm = p.calm ∙ h.calm;
}

-- the piece made the bytes longer by its length
pub longer : (now next : SourceView) (bytes bytes' : List ℕ) (n : ℕ) → Piece now next bytes bytes' n → length bytes' ≡ length bytes + n
longer now next bytes bytes' n p = ap length p.appended ∙ length-append bytes p.bytes ∙ ap (λ k. length bytes + k) p.len

pub at_end : (before now next : SourceView) (bytes bytes' : List ℕ) (n : ℕ) → HasRead before now bytes → Piece now next bytes bytes' n → n ≡ 0 → Fed before next bytes'
at_end before now next bytes bytes' n h p none =
    let more = goes_on before now next bytes bytes' n h p (omega (arith, h.bound)) in
    record { moved = more.moved; complete = inl (p.ends none); bound = more.bound; calm = more.calm }

pub too_long : (before now : SourceView) (bytes : List ℕ) → HasRead before now bytes → SCRIPT_MAX < length bytes → Fed before now bytes
too_long before now bytes h long = record { moved = h.moved; complete = inr long; bound = h.bound; calm = h.calm }

-- ---- writing

more_more : {A : Type 0} (told : Option (List A)) (xs ys : List A) → with_more (with_more told xs) ys ≡ with_more told (xs ++ ys)
more_more None xs ys = refl
more_more {A = A} (Some zs) xs ys = ap (λ (ws : List A). Some ws) (append_assoc zs xs ys)

Rose-from : (a b c : ℕ) → a ≤ b → Rose b c → Rose a c
Rose-from a b c le (inl lt) = inl (omega arith)
Rose-from a b c le (inr end) = inr end

-- all before the rest was written
pub record HasSaid (before now : SinkView) (text rest : List ℕ) : Type 0 where
  pub said : List ℕ
  pub parts : text ≡ said ++ rest
  pub written : now.written ≡ with_more before.written said
  pub calm : now.faults ≡ before.faults

nothing_said : (written : Option (List ℕ)) → written ≡ with_more written []
nothing_said None = refl
nothing_said (Some xs) = ap (λ (ys : List ℕ). Some ys) (sym (append-nil xs))

pub says_nothing : (before : SinkView) (text : List ℕ) → HasSaid before before text text
says_nothing before text = record { said = []; parts = refl; written = nothing_said before.written; calm = refl }

pub says_more : (before now next : SinkView) (text rest : List ℕ) (n : ℕ) → HasSaid before now text rest → Writes now next rest (Ok n) → HasSaid before next text (drop n rest)
says_more before now next text rest n h w = record {
  said = h.said ++ take n rest;
  parts = h.parts ∙ ap (λ (zs : List ℕ). h.said ++ zs) (sym (take-append-drop n rest)) ∙ sym (append_assoc h.said (take n rest) (drop n rest));
  written = w.appends ∙ ap (λ t. with_more t (take n rest)) h.written ∙ more_more before.written h.said (take n rest);
  calm = w.calm ∙ h.calm;
}

pub all_said : (before now : SinkView) (text rest : List ℕ) (want : ℕ) → HasSaid before now text rest → rest ≡ [] → Spoke before now text want want
all_said before now text rest want h none = inl (refl, h.calm, h.written ∙ ap (with_more before.written) (sym (h.parts ∙ ap (λ (zs : List ℕ). h.said ++ zs) none ∙ append-nil h.said)))

pub cut_short : (before now next : SinkView) (text rest : List ℕ) (want : ℕ) (e : Failed) → HasSaid before now text rest → Writes now next rest (Err e) → 0 < length rest → Spoke before next text want 3
cut_short before now next text rest want e h w some =
    let front : take (length h.said) text ≡ h.said = ap (take (length h.said)) h.parts ∙ take_at h.said rest (length h.said) refl in
    inr (refl, Rose-from before.faults now.faults next.faults (omega (arith, h.calm)) w.cause, (length h.said, omega (arith, ap length h.parts, length-append h.said rest), w.appends ∙ h.written ∙ ap (with_more before.written) (sym front)))
