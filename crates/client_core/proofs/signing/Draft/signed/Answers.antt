use Rattle.std.proofs.Common.{◌≡◌, ◌∙◌, ◌-◌, ◌++◌, length, take, ap, refl, subst, arith}
use Rattle.fr_bytes.specs.Bytes.{IsBytes, Text}
use Rattle.op_types.specs.Spelling.{IsOp, op_text}
use Rattle.msg_form.specs.declared.message.Request.TheVariants as requests
use Rattle.msg_form.specs.Messages.{request_text}
use Rattle.signed_ops.specs.Signed.{with_sig}
use Rattle.client_core.specs.Asking.{sent_of}
use Rattle.client_core.proofs.Texts.{op-ends, op-longer, op-short, request-ends, request-longer}
use Rattle.client_core.proofs.signing.Draft.signed.Goals as goal

pub with_end-op-requires : goal.with_end-op-requires
with_end-op-requires c =
    let longer = op-longer c.args.self.op in
    let text = ap length c.requires.draft.text in
    let sig = ap length c.as_slice.ensures in
    let same = c.requires.length in
    omega arith

pub with_end-requires : goal.with_end-requires
with_end-requires c =
    let op = c.args.self.op in
    let longer = request-longer op.wall c.args.self.have op in
    let text = ap length c.requires.draft.request in
    let sig = ap length c.as_slice-3.ensures in
    let same = c.requires.length in
    omega arith

pub returns-clause-sent : goal.returns-clause-sent
unfolding sent_of
returns-clause-sent c =
    let draft = c.args.self in
    let op = draft.op in
    let sig = c.args.sig in
    let request : c.with_end.result ≡ request_text (requests.Append op.wall draft.have (op_text (with_sig op sig))) =
    c.with_end.ensures ∙ (ap (λ (x : Text). take (length draft.request - length x) draft.request ++ x) c.as_slice-3.ensures
    ∙ (ap (λ (r : Text). take (length r - length sig) r ++ sig) c.requires.draft.request ∙ request-ends op.wall draft.have op sig c.requires.length)) in
    let text : c.with_end-op.result ≡ op_text (with_sig op sig) =
    c.with_end-op.ensures ∙ (ap (λ (x : Text). take (length draft.text - length x) draft.text ++ x) c.as_slice.ensures
    ∙ (ap (λ (r : Text). take (length r - length sig) r ++ sig) c.requires.draft.text ∙ op-ends op sig c.requires.length)) in
    rw (request, text) refl

pub returns-clause-spelled : goal.returns-clause-spelled
returns-clause-spelled c =
    let draft = c.args.self in
    let op = draft.op in
    let sig = c.args.sig in
    let long = c.requires.length in
    let is = c.requires.draft.is_op in
    let limit = is.sig.0 in
    let signed : IsOp (with_sig op sig) = record {
      wall = is.wall;
      author = is.author;
      seq = is.seq;
      epoch = is.epoch;
      view = is.view;
      kind = is.kind;
      sig = (omega (arith, limit, long), c.requires.bytes);
    } in
    let text : c.with_end-op.result ≡ op_text (with_sig op sig) =
    c.with_end-op.ensures ∙ (ap (λ (x : Text). take (length draft.text - length x) draft.text ++ x) c.as_slice.ensures
    ∙ (ap (λ (r : Text). take (length r - length sig) r ++ sig) c.requires.draft.text ∙ op-ends op sig c.requires.length)) in (
      signed,
      (
        is.wall,
        (
          c.requires.draft.have,
          (
            op-short (with_sig op sig) signed,
            subst IsBytes (c.as_slice-2.ensures ∙ text) c.slices_of_bytes.ensures,
          ),
        ),
      ),
    )
