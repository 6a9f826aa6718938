-- What a client makes of the reply to a request for keys.
use Rattle.std.proofs.Common.{◌≡◌, ◌∙◌, ℕ, List, Some, None, Result, Ok, Err, refl, ap, sym}
use Rattle.fr_bytes.specs.Bytes.{Text}
use Rattle.fr_digest.specs.Digest.{Digest}
use Rattle.fr_edges.specs.Wire.{WireView}
use Rattle.op_types.specs.declared.op.Op.{Op}
use Rattle.msg_form.specs.declared.message.Request.TheVariants as requests
use Rattle.msg_form.specs.declared.verdict.Verdict.{Verdict}
use Rattle.hall_core.specs.declared.ask.Ask.TheVariants as asks
use Rattle.hall_server.specs.Answers.{Sights}
use Rattle.script_form.specs.declared.outcome.KeysEnd.TheVariants as keys_ends
use Rattle.client_core.specs.Clients.{ClientView, Relearns, RejectsKeys}
use Rattle.client_core.specs.Sides.{SideView, side_of, with_side}
use Rattle.client_core.specs.Taking.{relearnt}
use Rattle.client_core.proofs.Places.{found-wall}
use Rattle.session_laws.specs.Doing.{Learning, PlainClient, keys_end, learning, plain, side_learnt}
use Rattle.session_laws.specs.Lanes.{Passed}
use Rattle.session_run.specs.Parts.{Learnt}
use Rattle.session_run.proofs.Asked.{found-same}
use Rattle.session_run.proofs.Lists.{put-same}

-- a client whose side learnt nothing
stays : (c : PlainClient) (wall : ℕ) (s : SideView) → side_of wall c.sides ≡ Some s
    → c ≡ record c { sides = with_side s.known.wall s c.sides }
stays c wall s found =
    let at = found-wall wall c.sides s found in
    ap (λ (l : List SideView). record c { sides = l })
    (sym (ap (λ (w : ℕ). with_side w s c.sides) at ∙ put-same wall c.sides s found))

pub learnt-lost : (d : Digest) (user : ℕ) (c : ClientView) (before now : Sights) (wire wire' : WireView) (wall : ℕ)
    (s : SideView) → side_of wall c.sides ≡ Some s
    → Passed d user before now wire wire' (requests.Keys s.known.wall s.known.size) asks.Look None
    → Learnt d user (plain c) (plain c) before now wire wire' s keys_ends.Lost
learnt-lost d user c before now wire wire' wall s found p = record {
  delivered = None;
  passed = p;
  client = stays (plain c) wall s found;
  end_is = refl;
}

pub learnt-taken : (d : Digest) (user : ℕ) (c c' : ClientView) (before now : Sights) (wire wire' : WireView) (wall : ℕ)
    (s : SideView) (bytes : Text) → side_of wall c.sides ≡ Some s
    → Passed d user before now wire wire' (requests.Keys s.known.wall s.known.size) asks.Look (Some bytes)
    → Relearns d c wall bytes c' → Learnt d user (plain c) (plain c') before now wire wire' s keys_ends.Fine
learnt-taken d user c c' before now wire wire' wall s bytes found p r =
    let same : r.side ≡ s = found-same (side_of wall c.sides) r.side s r.found found in
    let is : learning d s.known (Some bytes) ≡ Some (Ok r.changes) =
    ap (λ (t : SideView). learning d t.known (Some bytes)) (sym same)
    ∙ ap (λ (x : Result (List Op) Verdict). Some x) r.judged_so in
    record {
      delivered = Some bytes;
      passed = p;
      client = ap plain r.after_is
          ∙ ap (λ (t : SideView). record (plain c) { sides = with_side t.known.wall (relearnt t r.changes) c.sides }) same
          ∙ ap (λ (k : Learning). record (plain c) { sides = with_side s.known.wall (side_learnt s k) c.sides }) (sym is);
      end_is = ap keys_end (sym is);
    }

pub learnt-rejected : (d : Digest) (user : ℕ) (c c' : ClientView) (before now : Sights) (wire wire' : WireView)
    (wall : ℕ) (s : SideView) (bytes : Text) (verdict : Verdict) → side_of wall c.sides ≡ Some s
    → Passed d user before now wire wire' (requests.Keys s.known.wall s.known.size) asks.Look (Some bytes)
    → RejectsKeys d c wall bytes verdict → c' ≡ c
    → Learnt d user (plain c) (plain c') before now wire wire' s (keys_ends.Rejected verdict)
learnt-rejected d user c c' before now wire wire' wall s bytes verdict found p r unchanged =
    let same : r.side ≡ s = found-same (side_of wall c.sides) r.side s r.found found in
    let is : learning d s.known (Some bytes) ≡ Some (Err verdict) =
    ap (λ (t : SideView). learning d t.known (Some bytes)) (sym same)
    ∙ ap (λ (x : Result (List Op) Verdict). Some x) r.judged_so in
    record {
      delivered = Some bytes;
      passed = p;
      client = ap plain unchanged ∙ stays (plain c) wall s found
          ∙ ap (λ (k : Learning). record (plain c) { sides = with_side s.known.wall (side_learnt s k) c.sides }) (sym is);
      end_is = ap keys_end (sym is);
    }
