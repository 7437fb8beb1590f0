-- How the steps of a reply answer.
use Rattle.std.specs.Prelude.{◌≡◌, ◌++◌, ℕ, List, codes}
use Rattle.cq_run.specs.declared.status.Status.{Status}
use Rattle.cq_run.specs.declared.status.Status.TheVariants as status
use Rattle.cq_why.specs.declared.reply.Reply.{Reply}

-- that a file is accepted
pub record SaysOk (reply : Reply) : Type 0 where
  pub status_is : reply.status ≡ status.Ok
  pub text_is : reply.text.items ≡ codes "accepted\n"

-- a line with its status, and something behind it
pub record GoesOn (wanted : Status) (line : List ℕ) (reply : Reply) : Type 0 where
  pub status_is : reply.status ≡ wanted
  pub rest : List ℕ
  pub text_is : reply.text.items ≡ line ++ rest
