use Rattle.gfx_objects.proofs.objects.Objects.+climb.Given as goal

abbrev pub decreases-climb : goal.decreases-climb
decreases-climb l = l.steps
