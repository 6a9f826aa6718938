use Rattle.dict_proof.proofs.Views.{list_view-hidden}
use Rattle.hall_replies.proofs.ListTexts.{hidden-spelled}
use Rattle.hall_replies.proofs.lists.hidden_text.Goals as goal

pub write_dict-requires : goal.write_dict-requires
write_dict-requires c = record { spelled = rw (list_view-hidden c.args.digest) (hidden-spelled c.args.digest c.digest_fits.ensures) }
