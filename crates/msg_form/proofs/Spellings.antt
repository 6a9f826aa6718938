-- Reading and spelling of messages agree, and what readers of all of the bytes answer.
use Rattle.std.proofs.Common.{◌≡◌, ℕ, zero, suc, ◌<◌, ◌≤◌, ◌-◌, ◌^◌, Bool, true, false, cond, ◌||◌, List, [], ◌∷◌, length, Some, None, Result, Ok, Err, refl, sym, ap, subst, inl, inr, ◌∙◌, arith}
use Rattle.std.specs.Prelude.{IfOk, IsErrOf, nat_lt, ◌==◌}
use Rattle.std.specs.Int.{w32, w64}
use Rattle.fr_bytes.specs.declared.refusals.ReadRefusal.{ReadRefusal}
use Rattle.fr_bytes.specs.declared.refusals.ReadRefusal.TheVariants as refusals
use Rattle.fr_bytes.specs.Bytes.{IsBytes, Text}
use Rattle.fr_bytes.specs.Reading.{number_at, GivesAll, all_of}
use Rattle.fr_bytes.specs.Format.{Format, IsExact, format}
use Rattle.fr_bytes.specs.Parts.{is_outside, number_within_at, number, number_within, byte_within, counted_bytes, both, times, HasTag}
use Rattle.fr_bytes.proofs.Formats.{exact_u32, exact_u64, exact_counted, exact_both, exact_times, exact_as, bind_some, guard_some, some_is, all_found, all_again}
use Rattle.std.proofs.lemmas.Bool.{le-ltb, lt-ltb, ltb-false, ltb-true}
use Rattle.fr_bytes.proofs.Parts.{exact_byte_within, exact_number_within, exact_optional, exact_tagged}
use Rattle.op_types.specs.declared.limits.TheConstants.{VIEW_SIZE_MAX}
use Rattle.op_types.specs.declared.view.View.{View}
use Rattle.op_types.specs.Formats.{view_format}
use Rattle.op_types.proofs.Ops.{exact_view}
use Rattle.msg_form.specs.declared.causes.TheConstants.{WRONG_WALL, STALE_EPOCH, REPLAYED, BAD_REQUEST}
use Rattle.msg_form.specs.declared.tags.TheConstants.{LOOK_TAG, APPEND_TAG, KEYS_TAG, SHOW_TAG, REFUSED_TAG, KEY_OPS_TAG}
use Rattle.msg_form.specs.declared.message.Request.{Request}
use Rattle.msg_form.specs.declared.message.Request.TheVariants.{Look, Append, Keys}
use Rattle.msg_form.specs.declared.message.Reply.{Reply}
use Rattle.msg_form.specs.declared.message.Reply.TheVariants.{Show, Refused, KeyOps}
use Rattle.msg_form.specs.Causes.{greatest_detail}
use Rattle.msg_form.specs.Formats.{flag, flag_at, shown, look, append, keys, show, refused, key_ops}
use Rattle.msg_form.specs.Messages.{IsRequest, request_tag, request_rest, SpellsRequest, look_at, append_at, keys_at, request_cases, request_behind_at, request_at, request_format, HasParts, reply_tag, reply_rest, SpellsReply, show_at, refused_at, key_ops_at, reply_cases, reply_behind_at, reply_at, reply_format, reply_of}

-- ---- parts

exact_flag : IsExact flag
unfolding flag_at
exact_flag = exact_as (byte_within 0 1) flag.fits flag.text (λ n. n == 1) (exact_byte_within 0 1 (omega arith)) there back
  where
    there : (n : ℕ) → (0 ≤ n) × (n ≤ 1) → Unit {0} × (flag.text (n == 1) ≡ n ∷ [])
    there zero h = (tt, refl)
    there (suc zero) h = (tt, refl)
    there (suc (suc n)) h = absurd (omega (arith, h.1))

    back : (b : Bool) → Unit {0} → (n : ℕ) × ((0 ≤ n) × (n ≤ 1)) × ((n == 1) ≡ b)
    back true h = (1, (omega arith, omega arith), refl)
    back false h = (0, (omega arith, omega arith), refl)

exact_shown : (count : ℕ) → IsExact (shown count)
exact_shown count =
    exact_optional (nat_lt 0 count) ([], []) (both counted_bytes (λ tree. times count counted_bytes))
    (exact_both counted_bytes (λ tree. times count counted_bytes) exact_counted (λ tree h. exact_times counted_bytes exact_counted count))

-- a number of 32 bits, and what stands behind it
exact_behind : {A : Type 0} (f : ℕ → Format A) → ((n : ℕ) → IsExact (f n)) → IsExact (both (number w32) f)
exact_behind f exact = exact_both (number w32) f exact_u32 (λ n h. exact n)

exact_look : IsExact look
exact_look = exact_behind (λ wall. both (number w64) (λ have. flag)) (λ wall. exact_both (number w64) (λ have. flag) exact_u64 (λ have h. exact_flag))

exact_append : IsExact append
exact_append =
    exact_behind (λ wall. both (number w64) (λ have. counted_bytes)) (λ wall. exact_both (number w64) (λ have. counted_bytes) exact_u64 (λ have h. exact_counted))

exact_keys : IsExact keys
exact_keys = exact_behind (λ wall. number w64) (λ wall. exact_u64)

-- what a view's reply shows behind the view
abbrev shown_of : View → Format (ℕ × (Text × List Text))
shown_of view = both (number_within w64 0 view.size) (λ from. shown (view.size - from))

exact_show : IsExact show
exact_show =
    exact_behind (λ wall. both (view_format wall) shown_of)
    (λ wall. exact_both (view_format wall) shown_of (exact_view wall)
    (λ view h. exact_both (number_within w64 0 view.size) (λ from. shown (view.size - from))
    (exact_number_within w64 exact_u64 0 view.size (omega (arith, h.size.1))) (λ from h'. exact_shown (view.size - from))))

detail_fits : (cause : ℕ) → greatest_detail cause < 2 ^ 64
detail_fits cause = by ((cause == STALE_EPOCH) || (cause == REPLAYED))
  where
    by : (b : Bool) → cond b 18446744073709551615 0 < 2 ^ 64
    by true = omega arith
    by false = omega arith

abbrev detail : ℕ → Format ℕ
detail cause = number_within w64 0 (greatest_detail cause)

exact_refused : IsExact refused
exact_refused =
    exact_behind (λ wall. both (byte_within WRONG_WALL BAD_REQUEST) detail)
    (λ wall. exact_both (byte_within WRONG_WALL BAD_REQUEST) detail (exact_byte_within WRONG_WALL BAD_REQUEST (omega arith))
    (λ cause h. exact_number_within w64 exact_u64 0 (greatest_detail cause) (detail_fits cause)))

not_past : (low high n : ℕ) → is_outside low high n ≡ false → n ≤ high
not_past low high n e = by (nat_lt n low) (nat_lt high n) refl e
  where
    by : (a b : Bool) → nat_lt high n ≡ b → (a || b) ≡ false → n ≤ high
    by true b e h = absurd cc
    by false true e h = absurd cc
    by false false e h = ltb-false high n e

-- a number that was read within a range isn't past it
pub within_high : (low high : ℕ) (bytes rest : Text) (n : ℕ) → number_within_at w64 low high bytes ≡ Some (n, rest) → n ≤ high
unfolding number_within_at
within_high low high bytes rest n e =
    let one = bind_some (number_at w64 bytes) (λ a. cond (is_outside low high a.0) None (Some a)) (n, rest) e in
    let g = guard_some (is_outside low high one.0.0) one.0 (n, rest) one.2 in
    subst (λ (p : ℕ × Text). p.0 ≤ high) g.1 (not_past low high one.0.0 g.0)

exact_key_ops : IsExact key_ops
exact_key_ops =
    exact_behind (λ wall. both (number_within w64 1 VIEW_SIZE_MAX) (λ size. counted_bytes))
    (λ wall. exact_both (number_within w64 1 VIEW_SIZE_MAX) (λ size. counted_bytes) (exact_number_within w64 exact_u64 1 VIEW_SIZE_MAX (omega arith)) (λ size h. exact_counted))

-- ---- requests

abbrev IsTaggedRequest : ℕ → Request → Type 0
IsTaggedRequest tag request = IsRequest request × (request_tag request ≡ tag)

look_from : (request : Request) → IsTaggedRequest LOOK_TAG request → (x : ℕ × (ℕ × Bool)) × look.fits x × (Look x.0 x.1.0 x.1.1 ≡ request)
look_from (Look wall have whole) h = ((wall, (have, whole)), h.0, refl)
look_from _ h = absurd (omega arith)

append_from : (request : Request) → IsTaggedRequest APPEND_TAG request → (x : ℕ × (ℕ × Text)) × append.fits x × (Append x.0 x.1.0 x.1.1 ≡ request)
append_from (Append wall have op) h = ((wall, (have, op)), h.0, refl)
append_from _ h = absurd (omega arith)

keys_from : (request : Request) → IsTaggedRequest KEYS_TAG request → (x : ℕ × ℕ) × keys.fits x × (Keys x.0 x.1 ≡ request)
keys_from (Keys wall size) h = ((wall, size), h.0, refl)
keys_from _ h = absurd (omega arith)

has_request_case : (request : Request) → HasTag request_cases (request_tag request)
has_request_case (Look wall have whole) = inl refl
has_request_case (Append wall have op) = inr (inl refl)
has_request_case (Keys wall size) = inr (inr (inl refl))

request_tag_below : (request : Request) → request_tag request < 256
request_tag_below (Look wall have whole) = omega arith
request_tag_below (Append wall have op) = omega arith
request_tag_below (Keys wall size) = omega arith

exact_looks : IsExact (format (IsTaggedRequest LOOK_TAG) request_rest look_at)
unfolding look_at
exact_looks = exact_as look (IsTaggedRequest LOOK_TAG) request_rest (λ x. Look x.0 x.1.0 x.1.1) exact_look (λ x h. ((h, refl), refl)) look_from

exact_appends : IsExact (format (IsTaggedRequest APPEND_TAG) request_rest append_at)
unfolding append_at
exact_appends = exact_as append (IsTaggedRequest APPEND_TAG) request_rest (λ x. Append x.0 x.1.0 x.1.1) exact_append (λ x h. ((h, refl), refl)) append_from

exact_key_requests : IsExact (format (IsTaggedRequest KEYS_TAG) request_rest keys_at)
unfolding keys_at
exact_key_requests = exact_as keys (IsTaggedRequest KEYS_TAG) request_rest (λ x. Keys x.0 x.1) exact_keys (λ x h. ((h, refl), refl)) keys_from

pub exact_request : IsExact request_format
unfolding request_at request_behind_at
exact_request =
    exact_tagged IsRequest request_tag request_rest request_cases request_tag_below (exact_looks, (exact_appends, (exact_key_requests, tt))) has_request_case

-- ---- replies

abbrev IsTaggedReply : ℕ → Reply → Type 0
IsTaggedReply tag reply = HasParts reply × (reply_tag reply ≡ tag)

show_from : (reply : Reply) → IsTaggedReply SHOW_TAG reply
    → (x : ℕ × (View × (ℕ × (Text × List Text)))) × show.fits x × (Show x.1.0 x.1.1.0 x.1.1.1.0 x.1.1.1.1 ≡ reply)
show_from (Show view from tree lists) h = ((view.wall, (view, (from, (tree, lists)))), h.0, refl)
show_from _ h = absurd (omega arith)

refused_from : (reply : Reply) → IsTaggedReply REFUSED_TAG reply → (x : ℕ × (ℕ × ℕ)) × refused.fits x × (Refused x.0 x.1.0 x.1.1 ≡ reply)
refused_from (Refused wall cause number) h = ((wall, (cause, number)), h.0, refl)
refused_from _ h = absurd (omega arith)

key_ops_from : (reply : Reply) → IsTaggedReply KEY_OPS_TAG reply → (x : ℕ × (ℕ × Text)) × key_ops.fits x × (KeyOps x.0 x.1.0 x.1.1 ≡ reply)
key_ops_from (KeyOps wall size tree) h = ((wall, (size, tree)), h.0, refl)
key_ops_from _ h = absurd (omega arith)

has_reply_case : (reply : Reply) → HasTag reply_cases (reply_tag reply)
has_reply_case (Show view from tree lists) = inl refl
has_reply_case (Refused wall cause number) = inr (inl refl)
has_reply_case (KeyOps wall size tree) = inr (inr (inl refl))

reply_tag_below : (reply : Reply) → reply_tag reply < 256
reply_tag_below (Show view from tree lists) = omega arith
reply_tag_below (Refused wall cause number) = omega arith
reply_tag_below (KeyOps wall size tree) = omega arith

-- a reply that shows has its view's wall
show_there : (x : ℕ × (View × (ℕ × (Text × List Text)))) → show.fits x
    → IsTaggedReply SHOW_TAG (Show x.1.0 x.1.1.0 x.1.1.1.0 x.1.1.1.1) × (show.text (x.1.0.wall, x.1) ≡ show.text x)
show_there x h =
    let same : x.1.0.wall ≡ x.0 = h.1.0.wall in
    ((subst (λ wall. show.fits (wall, x.1)) (sym same) h, refl), ap (λ wall. show.text (wall, x.1)) same)

exact_shows : IsExact (format (IsTaggedReply SHOW_TAG) reply_rest show_at)
unfolding show_at
exact_shows = exact_as show (IsTaggedReply SHOW_TAG) reply_rest (λ x. Show x.1.0 x.1.1.0 x.1.1.1.0 x.1.1.1.1) exact_show show_there show_from

exact_refusals : IsExact (format (IsTaggedReply REFUSED_TAG) reply_rest refused_at)
unfolding refused_at
exact_refusals = exact_as refused (IsTaggedReply REFUSED_TAG) reply_rest (λ x. Refused x.0 x.1.0 x.1.1) exact_refused (λ x h. ((h, refl), refl)) refused_from

exact_changes : IsExact (format (IsTaggedReply KEY_OPS_TAG) reply_rest key_ops_at)
unfolding key_ops_at
exact_changes = exact_as key_ops (IsTaggedReply KEY_OPS_TAG) reply_rest (λ x. KeyOps x.0 x.1.0 x.1.1) exact_key_ops (λ x h. ((h, refl), refl)) key_ops_from

pub exact_reply : IsExact reply_format
unfolding reply_at reply_behind_at
exact_reply =
    exact_tagged HasParts reply_tag reply_rest reply_cases reply_tag_below (exact_shows, (exact_refusals, (exact_changes, tt))) has_reply_case

-- ---- what readers of all of the bytes answer

request_again : (bytes : Text) (request : Request) → SpellsRequest request bytes → all_of request_at bytes ≡ Some request
request_again bytes request h = ap (all_of request_at) h.text ∙ all_again request_format exact_request request h.is_request

pub request_found : (bytes : Text) (result : Result Request ReadRefusal) → IsBytes bytes → GivesAll (λ (x : Request). x) result (all_of request_at bytes)
    → IfOk result (λ request. SpellsRequest request bytes)
request_found bytes (Ok request) h read = let it = all_found request_format exact_request bytes request h read in record { is_request = it.0; text = it.1 }
request_found bytes (Err e) h read = tt

pub request_only : (bytes : Text) (result : Result Request ReadRefusal) → GivesAll (λ (x : Request). x) result (all_of request_at bytes)
    → IsErrOf result refusals.NotForm → (request : Request) → SpellsRequest request bytes → ⊥
request_only bytes (Ok x) read none request h = absurd cc
request_only bytes (Err refusals.NotForm) read none request h = let e = sym read ∙ request_again bytes request h in cc
request_only bytes (Err refusals.NoMemory) read none request h = cc

reply_again : (bytes : Text) (reply : Reply) → SpellsReply reply bytes → all_of reply_at bytes ≡ Some reply
reply_again bytes reply h = ap (all_of reply_at) h.text ∙ all_again reply_format exact_reply reply h.is_reply.parts

pub reply_found : (bytes : Text) (result : Result Reply ReadRefusal) → IsBytes bytes → length bytes ≤ 33554432
    → GivesAll (λ (x : Reply). x) result (all_of reply_at bytes) → IfOk result (λ reply. SpellsReply reply bytes)
reply_found bytes (Ok reply) h short read =
    let it = all_found reply_format exact_reply bytes reply h read in
    record { is_reply = record { parts = it.0; short = subst (λ (x : Text). length x ≤ 33554432) it.1 short }; text = it.1 }
reply_found bytes (Err e) h short read = tt

pub reply_only : (bytes : Text) (result : Result Reply ReadRefusal) → GivesAll (λ (x : Reply). x) result (all_of reply_at bytes)
    → IsErrOf result refusals.NotForm → (reply : Reply) → SpellsReply reply bytes → ⊥
reply_only bytes (Ok x) read none reply h = absurd cc
reply_only bytes (Err refusals.NotForm) read none reply h = let e = sym read ∙ reply_again bytes reply h in cc
reply_only bytes (Err refusals.NoMemory) read none reply h = cc

pub request-one : (x y : Request) (bytes : Text) → SpellsRequest x bytes → SpellsRequest y bytes → x ≡ y
request-one x y bytes hx hy = some_is x y (sym (request_again bytes x hx) ∙ request_again bytes y hy)

pub reply-one : (x y : Reply) (bytes : Text) → SpellsReply x bytes → SpellsReply y bytes → x ≡ y
reply-one x y bytes hx hy = some_is x y (sym (reply_again bytes x hx) ∙ reply_again bytes y hy)

-- ---- what the bytes of a reply spell

short-read : (bytes : Text) → length bytes ≤ 33554432 → reply_of bytes ≡ all_of reply_at bytes
unfolding reply_of
short-read bytes short = ap (λ (b : Bool). cond b None (all_of reply_at bytes)) (le-ltb 33554432 (length bytes) short)

long-read : (bytes : Text) → 33554432 < length bytes → reply_of bytes ≡ None
unfolding reply_of
long-read bytes long = ap (λ (b : Bool). cond b None (all_of reply_at bytes)) (lt-ltb 33554432 (length bytes) long)

pub reply-gives : (bytes : Text) (result : Result Reply ReadRefusal) → length bytes ≤ 33554432
    → GivesAll (λ (x : Reply). x) result (all_of reply_at bytes) → GivesAll (λ (x : Reply). x) result (reply_of bytes)
reply-gives bytes result short read = subst (GivesAll (λ (x : Reply). x) result) (sym (short-read bytes short)) read

pub reply-too-long : (bytes : Text) → 33554432 < length bytes → reply_of bytes ≡ None
reply-too-long bytes long = long-read bytes long

pub reply-spelled : (reply : Reply) (bytes : Text) → IsBytes bytes → reply_of bytes ≡ Some reply → SpellsReply reply bytes
reply-spelled reply bytes are e = by (nat_lt 33554432 (length bytes)) refl
  where
    by : (b : Bool) → nat_lt 33554432 (length bytes) ≡ b → SpellsReply reply bytes
    by true long = absurd (let none = long-read bytes (ltb-true 33554432 (length bytes) long) in cc)
    by false short =
        reply_found bytes (Ok reply) are (ltb-false 33554432 (length bytes) short)
        (sym (short-read bytes (ltb-false 33554432 (length bytes) short)) ∙ e)

pub reply-read : (reply : Reply) (bytes : Text) → SpellsReply reply bytes → reply_of bytes ≡ Some reply
reply-read reply bytes h =
    short-read bytes (subst (λ (x : Text). length x ≤ 33554432) (sym h.text) h.is_reply.short) ∙ reply_again bytes reply h
