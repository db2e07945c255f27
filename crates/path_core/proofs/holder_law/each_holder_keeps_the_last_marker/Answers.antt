use Rattle.path_core.proofs.holder_law.each_holder_keeps_the_last_marker.Goals as goal

pub returns : goal.returns
returns c = λ x w turn law h. ((law.seats_know w).sync turn h).marker
