-- What a shadow that has followed some entries tells of its words, and the entries that leave it as
-- it is.
use Rattle.vyrd_words.proofs.Prelude.{◌≡◌, ℕ, List, ◌∷◌, None, ◌∙◌, Call, Return, Commit, Entry}
use Rattle.vyrd_words.proofs.Prelude.{StartWord, words_with, entry, ShadowKept, HasFollowed}
use Rattle.vyrd_base.specs.declared.subject.Method.{Method}
use Rattle.vyrd_base.specs.declared.subject.Args.{Args}
use Rattle.vyrd_base.specs.Shape.{broken_rule}
use Rattle.vyrd_base.specs.BlockEnds.{ended_effects}
use Rattle.vyrd_base.proofs.SettledWords.{words_settled}
use Rattle.vyrd_shadow.proofs.FollowLaws.{followed_call, followed_return, followed_lone_commit}

-- its words are those that blocks leave whose writes take effect at their end
pub words_old : (k : ShadowKept) (starting : List StartWord) (earlier : List Entry)
    → HasFollowed k starting earlier
    → k.words ≡ words_with k.header starting (ended_effects earlier)
words_old k starting earlier f = f.words ∙ words_settled k.header starting earlier f.rules

pub call_followed : (k : ShadowKept) (starting : List StartWord) (earlier : List Entry) (c : ℕ)
    (method : Method) (args : Args)
    → broken_rule k.header earlier (entry c (Call method args)) ≡ None
    → HasFollowed k starting earlier → HasFollowed k starting (entry c (Call method args) ∷ earlier)
call_followed k starting earlier c method args keeps f = followed_call k _ _ c _ _ f keeps

pub return_followed : (k : ShadowKept) (starting : List StartWord) (earlier : List Entry)
    (c reply : ℕ)
    → broken_rule k.header earlier (entry c (Return reply)) ≡ None → HasFollowed k starting earlier
    → HasFollowed k starting (entry c (Return reply) ∷ earlier)
return_followed k starting earlier c reply keeps f = followed_return k _ _ c _ f keeps

pub commit_followed : (k : ShadowKept) (starting : List StartWord) (earlier : List Entry) (c : ℕ)
    → broken_rule k.header earlier (entry c Commit) ≡ None → HasFollowed k starting earlier
    → HasFollowed k starting (entry c Commit ∷ earlier)
commit_followed k starting earlier c keeps f = followed_lone_commit k starting earlier c f keeps
