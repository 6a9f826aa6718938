-- What a report prints of a verdict and of a decline: a name, for some verdicts a position, and numbers.
use Rattle.std.specs.Prelude.{ℕ, List, codes, Option, Some, None}
use Rattle.msg_form.specs.declared.decline.Decline.{Decline}
use Rattle.msg_form.specs.declared.decline.Decline.TheVariants as declines
use Rattle.msg_form.specs.declared.verdict.Verdict.{Verdict}
use Rattle.msg_form.specs.declared.verdict.Verdict.TheVariants as verdicts
use Rattle.msg_form.specs.declared.verdict.Detail.{Detail}
use Rattle.msg_form.specs.declared.verdict.Detail.TheVariants as details

abbrev pub decline_name : Decline → List ℕ
decline_name declines.NotMember = codes "NotMember"
decline_name declines.NotOwner = codes "NotOwner"
decline_name declines.AlreadyIn = codes "AlreadyIn"
decline_name declines.NotIn = codes "NotIn"
decline_name declines.NoSlot = codes "NoSlot"
decline_name declines.NoMemory = codes "NoMemory"

abbrev pub verdict_name : Verdict → List ℕ
verdict_name verdicts.Garbled = codes "Garbled"
verdict_name verdicts.WrongWall = codes "WrongWall"
verdict_name verdicts.BadServerSignature = codes "BadServerSignature"
verdict_name verdicts.Shorter = codes "Shorter"
verdict_name verdicts.Forked = codes "Forked"
verdict_name verdicts.BadFrom = codes "BadFrom"
verdict_name verdicts.BadShape = codes "BadShape"
verdict_name verdicts.RootMismatch = codes "RootMismatch"
verdict_name (verdicts.TooFewVouch found needed) = codes "TooFewVouch"
verdict_name (verdicts.BadAuthorSignature at) = codes "BadAuthorSignature"
verdict_name (verdicts.BadDictProof at) = codes "BadDictProof"
verdict_name (verdicts.NotAllowed at) = codes "NotAllowed"
verdict_name (verdicts.StaleEpoch at now) = codes "StaleEpoch"
verdict_name (verdicts.Replayed at next) = codes "Replayed"
verdict_name (verdicts.BadChange at) = codes "BadChange"
verdict_name (verdicts.LateView at) = codes "LateView"
verdict_name (verdicts.BadView at) = codes "BadView"
verdict_name (verdicts.WrongAfter at) = codes "WrongAfter"
verdict_name verdicts.Missing = codes "Missing"
verdict_name (verdicts.KeysMissing found needed) = codes "KeysMissing"
verdict_name verdicts.NoMemory = codes "NoMemory"

-- the position of a verdict that is of one
abbrev pub verdict_position : Verdict → Option ℕ
verdict_position verdicts.Garbled = None
verdict_position verdicts.WrongWall = None
verdict_position verdicts.BadServerSignature = None
verdict_position verdicts.Shorter = None
verdict_position verdicts.Forked = None
verdict_position verdicts.BadFrom = None
verdict_position verdicts.BadShape = None
verdict_position verdicts.RootMismatch = None
verdict_position (verdicts.TooFewVouch found needed) = None
verdict_position (verdicts.BadAuthorSignature at) = Some at
verdict_position (verdicts.BadDictProof at) = Some at
verdict_position (verdicts.NotAllowed at) = Some at
verdict_position (verdicts.StaleEpoch at now) = Some at
verdict_position (verdicts.Replayed at next) = Some at
verdict_position (verdicts.BadChange at) = Some at
verdict_position (verdicts.LateView at) = Some at
verdict_position (verdicts.BadView at) = Some at
verdict_position (verdicts.WrongAfter at) = Some at
verdict_position verdicts.Missing = None
verdict_position (verdicts.KeysMissing found needed) = None
verdict_position verdicts.NoMemory = None

-- the numbers behind the name and the position
abbrev pub verdict_detail : Verdict → Detail
verdict_detail (verdicts.StaleEpoch at now) = details.Now now
verdict_detail (verdicts.Replayed at next) = details.Next next
verdict_detail (verdicts.TooFewVouch found needed) = details.Counts found needed
verdict_detail (verdicts.KeysMissing found needed) = details.Counts found needed
verdict_detail _ = details.Nothing
