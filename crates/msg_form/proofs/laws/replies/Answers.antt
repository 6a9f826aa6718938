use Rattle.msg_form.proofs.Spellings.{reply-read, reply-spelled}
use Rattle.msg_form.proofs.laws.replies.Goals as goal

pub returns : goal.returns
returns c = λ x bytes are. (reply-spelled x bytes are, reply-read x bytes)
