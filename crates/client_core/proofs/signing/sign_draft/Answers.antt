use Rattle.client_core.proofs.signing.sign_draft.Goals as goal

pub returns-in_default-clause-same_book : goal.returns-in_default-clause-same_book
returns-in_default-clause-same_book c = c.give_back.ensures c.args.book.now c.args.draft.op c.in_ok-kept.ensures.room
